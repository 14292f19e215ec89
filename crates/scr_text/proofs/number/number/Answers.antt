use Rattle.std.proofs.Common.{◌-◌, ◌^◌, true, false, sym, ◌∙◌}
use Rattle.scr_text.proofs.NumberLaws.{number_between-by, IsUtf8-number, parsed-in_range}
use Rattle.scr_text.proofs.number.number.Goals as goal

pub returns-then-not-is_number : goal.returns-then-not-is_number
returns-then-not-is_number c =
    sym (number_between-by 0 (2 ^ 32 - 1) c.args.text.now false (sym c.if-not-is_number.true ∙ c.is_number.ensures))

pub unreachable-requires : goal.unreachable-requires
unreachable-requires c = c.in-Err.ensures.cases.0 (IsUtf8-number c.args.text.now (sym c.is_number.ensures ∙ c.if-not-is_number.false))

pub returns : goal.returns
returns c =
    let some = sym c.is_number.ensures ∙ c.if-not-is_number.false in
    let same = c.in-Ok.ensures.cases.0 in
    c.ok.ensures.value ∙ parsed-in_range c.args.text.now c.parse.result (rw same at c.parse.ensures.value.0) some
    ∙ sym (number_between-by 0 (2 ^ 32 - 1) c.args.text.now true (sym some))
