use Rattle.std.proofs.Common.{◌-◌, arith}
use Rattle.scr_orbit.proofs.InPlaceLaws.{added-at}
use Rattle.scr_tetra.proofs.PyramTurns.{pyram_large, pyram_tip}
use Rattle.scr_tetra.proofs.pyram_turned.PyraminxPowerTurned.turned.Goals as goal

pub invariant_of-result : goal.invariant_of-result
invariant_of-result c =
    (pyram_tip c.args.self.now c.body-body.result c.turned_in_place.result c.args.number (c.args.number - 8) c.body-body.ensures.same c.tips-tips.ensures.valid (omega arith)
    (added-at 3 c.axial_turns.result.now (c.args.number - 8) _ c.tips-tips.ensures.same c.axial_turns.ensures.defined (omega arith) c.turned_in_place.ensures)).valid

pub returns-then-number-lt8 : goal.returns-then-number-lt8
returns-then-number-lt8 c =
    (pyram_large c.args.self.now c.body-body.result c.turned.result c.tips-tips.result c.args.number c.body-body.ensures.same c.tips-tips.ensures.same
    c.tips-tips.ensures.valid c.if-number-lt8.true c.turned.ensures).after

pub returns-else-number-lt8 : goal.returns-else-number-lt8
returns-else-number-lt8 c =
    (pyram_tip c.args.self.now c.body-body.result c.turned_in_place.result c.args.number (c.args.number - 8) c.body-body.ensures.same c.tips-tips.ensures.valid (omega arith)
    (added-at 3 c.axial_turns.result.now (c.args.number - 8) _ c.tips-tips.ensures.same c.axial_turns.ensures.defined (omega arith) c.turned_in_place.ensures)).after
