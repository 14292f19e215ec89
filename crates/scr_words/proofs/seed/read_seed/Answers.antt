use Rattle.std.proofs.Common.{◌<◌, ◌∙◌, sym, arith}
use Rattle.scr_words.proofs.Digits.{only_bad_digits, seed_of-bad_digit, seed_of-digits}
use Rattle.scr_words.proofs.seed.read_seed.Goals as goal

pub returns-in-Ok : goal.returns-in-Ok
returns-in-Ok c = seed_of-digits c.args.text.now _ c.if-text-ne64.false (sym c.from_hex.ensures ∙ c.in-Ok.is)

pub overflow_cast-result : goal.overflow_cast-result
overflow_cast-result c =
    let bad = seed_of-bad_digit c.args.text.now c.in-Err.fault c.in-InvalidHexCharacter.c c.in-InvalidHexCharacter.index
    c.if-text-ne64.false (sym c.from_hex.ensures ∙ c.in-Err.is) c.in-InvalidHexCharacter.is in
    let below : c.in-InvalidHexCharacter.index < 64 = bad.0 in
    omega arith

pub unreachable-requires : goal.unreachable-requires
unreachable-requires c =
    only_bad_digits c.args.text.now c.in-Err.fault c.if-text-ne64.false (sym c.from_hex.ensures ∙ c.in-Err.is)
    c.in_default.not-InvalidHexCharacter

pub returns : goal.returns
returns c =
    (seed_of-bad_digit c.args.text.now c.in-Err.fault c.in-InvalidHexCharacter.c c.in-InvalidHexCharacter.index
    c.if-text-ne64.false (sym c.from_hex.ensures ∙ c.in-Err.is) c.in-InvalidHexCharacter.is).1
