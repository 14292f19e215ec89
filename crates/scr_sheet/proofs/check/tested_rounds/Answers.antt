use Rattle.std.proofs.Common.{ap, arith}
use Rattle.std.specs.Prelude.{length}
use Rattle.scr_list.specs.declared.round.Round.{Round}
use Rattle.scr_notation.specs.Event.{is_tested_by_table}
use Rattle.scr_sheet.proofs.CheckedInput.{tested-few}
use Rattle.scr_sheet.proofs.check.tested_rounds.Goals as goal

pub push-requires : goal.push-requires
push-requires c =
    let few = tested-few (λ (round : Round). is_tested_by_table round.event) c.args.rounds.now c.loop-round.round-index c.loop-round-test.true in
    let same = ap length c.loop-round.invariant in
    (omega arith, omega (arith, few, same, c.requires.few))
