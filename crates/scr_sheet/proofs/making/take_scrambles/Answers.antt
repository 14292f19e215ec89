use Rattle.std.proofs.Common.{◌∙◌, sym, ap, arith}
use Rattle.std.specs.Option.{option_flatten}
use Rattle.scr_sheet.proofs.PartLaws.{IsFirstNone-here}
use Rattle.scr_sheet.proofs.making.take_scrambles.Goals as goal

pub returns-in-None-clause-taken : goal.returns-in-None-clause-taken
returns-in-None-clause-taken c =
    let k = c.loop-k.k in
    let d = c.index-answers-k.result in
    let here = c.loop-k.invariant.left k d (omega arith) in
    IsFirstNone-here c.args.answers.now c.loop-k.scrambles.items k d (omega (arith, c.loop-k-test.true, c.loop-k.auto.answers)) c.loop-k.invariant.taken
    (ap option_flatten (sym here) ∙ (ap option_flatten (sym c.take.ensures.value) ∙ (sym c.flatten.ensures ∙ c.in-None.is)))
