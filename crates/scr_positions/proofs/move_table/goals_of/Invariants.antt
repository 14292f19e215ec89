use Rattle.std.proofs.Common.{◌≡◌}
use Rattle.scr_positions.specs.Moves.{each_below}
use Rattle.scr_positions.proofs.move_table.goals_of.Given as goal

abbrev pub invariant-loop-position : goal.invariant-loop-position
invariant-loop-position g l = l.goals.items ≡ each_below (g.C.Coord.coordinate l.coord).is_goal l.position
