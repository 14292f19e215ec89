use Rattle.std.proofs.Common.{arith, sym, refl}
use Rattle.std.proofs.lemmas.Option.{get_or_from_slice_get}
use Rattle.scr_notation.specs.Event.{events}
use borrow.Author.Count.{below_more}
use Rattle.scr_notation.proofs.EachEvent.{numbered}
use Rattle.scr_read.proofs.head.read_head.Goals as goal

pub loop-number-preserved : goal.loop-number-preserved
loop-number-preserved c =
    below_more _ _ c.loop-number.invariant
    (λ head there is. c.in_default.ensures.none refl head (sym (get_or_from_slice_get events c.loop-number.number head.event _ there)) is)

pub returns-clause-none : goal.returns-clause-none
returns-clause-none c = λ none head is.
    let it = numbered head.event in
    c.loop-number.invariant it.0 (omega (arith, it.1, c.loop-number-test.false)) head it.2 is
