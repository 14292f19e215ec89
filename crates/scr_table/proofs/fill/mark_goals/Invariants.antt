use Rattle.std.proofs.Common.{◌-◌}
use Rattle.scr_table.proofs.GoalsMarked.{AreMarkedBelow}
use Rattle.scr_table.proofs.fill.mark_goals.Given as goal

abbrev pub decreases-loop-goal : goal.decreases-loop-goal
decreases-loop-goal g l = (g.C.Coord.coordinate l.coord).count - l.from

abbrev pub invariant-loop-goal : goal.invariant-loop-goal
invariant-loop-goal g l = AreMarkedBelow (g.C.Coord.coordinate l.coord) l.from l.entries
