use Rattle.std.proofs.Common.{arith}
use Rattle.std.proofs.lemmas.Int.{ints}
use Rattle.scr_sq1.proofs.NumberedTurns.{after-twist, after-number}
use Rattle.scr_sq1.proofs.state.Sq1.turn_at.Goals as goal

pub returns-then-number-eq-TWIST-clause-after : goal.returns-then-number-eq-TWIST-clause-after
returns-then-number-eq-TWIST-clause-after c =
    after-twist c.args.self.now c.twist.result c.args.number c.if-number-eq-TWIST.true c.twist.ensures.value

pub returns-else-number-eq-TWIST-clause-after : goal.returns-else-number-eq-TWIST-clause-after
returns-else-number-eq-TWIST-clause-after c =
    after-number c.args.self.now c.args.number c.turn.result _ _ c.requires c.if-number-eq-TWIST.false c.turn.ensures.value
    (omega (arith, ints, c.requires)) (omega (arith, ints))
