use Rattle.std.proofs.Common.{◌≡◌, ◌<◌, Some, sym, ap, ◌∙◌, arith}
use Rattle.scr_combinatorics.specs.Play.{play}
use Rattle.scr_combinatorics.proofs.OneLetter.{Ends, ending_word, some_letter}
use Rattle.scr_notation.specs.Written.{Written}
use Rattle.scr_sq1.specs.Units.{sq1_after}
use Rattle.scr_sq1tables.specs.Letters.{stage_of, letter_of}
use Rattle.scr_sq1tables.proofs.LetterWords.{spelled-one}
use Rattle.scr_sq1solve.proofs.TotalLaws.{IsEnding-short, IsWalk-played, last_of_short, walk-costs}
use Rattle.scr_sq1solve.proofs.walks.end_walk.Goals as goal
use Rattle.scr_sq1solve.proofs.walks.end_walk.Goals.{in-Squarings, in_default}

pub unreachable-requires : goal.unreachable-requires
unreachable-requires c =
    let letters = c.args.letters in
    let count = elim c.match-letters.branch as (λ _. c.match-letters.count ≡ (stage_of letters).letters) [
      | in-Squarings w ↦ w.count-is ∙ ap (λ l. (stage_of l).letters) (sym w.in-Squarings.is)
      | in_default w ↦ w.count-is ∙ ap (λ l. (stage_of l).letters) (sym (last_of_short letters c.requires.short w.in_default.not-Squarings))
    ] in
    let some = some_letter sq1_after (stage_of letters) (IsEnding-short letters c.requires.short) c.args.state.now c.requires.word in
    c.loop-number.invariant some.0 some.1 (omega (arith, some.2.below, c.loop-number-test.false, count)) some.2

pub returns-then-is_ended-clause-walk : goal.returns-then-is_ended-clause-walk
returns-then-is_ended-clause-walk c =
    let s = c.args.state.now in
    let letters = c.args.letters in
    let n = c.loop-number.number in
    let end = c.in-Some.end in
    let written = ap (λ (w : Written). w.turns) c.word_of-turns.ensures ∙ spelled-one (letter_of letters) n in
    let played : play sq1_after s (letter_of letters n) ≡ Some end = sym (c.after_word.ensures ∙ ap (play sq1_after s) written) ∙ c.in-Some.is in
    let count = elim c.match-letters.branch as (λ _. c.match-letters.count ≡ (stage_of letters).letters) [
      | in-Squarings w ↦ w.count-is ∙ ap (λ l. (stage_of l).letters) (sym w.in-Squarings.is)
      | in_default w ↦ w.count-is ∙ ap (λ l. (stage_of l).letters) (sym (last_of_short letters c.requires.short w.in_default.not-Squarings))
    ] in
    let below : n < (stage_of letters).letters = omega (arith, c.loop-number-test.true, count) in
    let ends : Ends sq1_after (stage_of letters) s n end =
    record { below = below; played = played; goal = c.is_ended.ensures.0 c.if-is_ended.true } in
    let word = ending_word sq1_after (stage_of letters) (IsEnding-short letters c.requires.short) s end n ends c.loop-number.invariant in
    IsWalk-played (stage_of letters) s end word.0 c.word_of-turns.result.turns word.1 (written ∙ word.2)
    (ap (play sq1_after s) written ∙ played)

pub returns-then-is_ended-clause-costs : goal.returns-then-is_ended-clause-costs
returns-then-is_ended-clause-costs c = walk-costs c.args.letters (returns-then-is_ended-clause-walk c)
