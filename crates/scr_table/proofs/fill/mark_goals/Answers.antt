use Rattle.std.proofs.Common.{arith}
use Rattle.scr_table.proofs.GoalsMarked.{AreMarkedBelow-next, AreKnown-marked}
use Rattle.scr_table.proofs.fill.mark_goals.Goals as goal

pub overflow_add-from : goal.overflow_add-from
overflow_add-from g c = omega (arith, c.in-Some.ensures.goal.below, c.count-positions.ensures.count)

pub loop-goal-preserved : goal.loop-goal-preserved
loop-goal-preserved g c =
    AreMarkedBelow-next (g.C.Coord.coordinate c.args.coord.now) c.loop-goal.from c.in-Some.goal c.loop-goal.entries c.loop-goal.invariant
    c.in-Some.ensures.goal

pub returns : goal.returns
returns g c =
    AreKnown-marked (g.C.Coord.coordinate c.args.coord.now) c.loop-goal.from c.loop-goal.entries c.loop-goal.invariant c.in_default.ensures.none
