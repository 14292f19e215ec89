use Rattle.scr_positions.specs.Coordinates.{HasNoGoal}
use Rattle.scr_positions.proofs.coordinate.Coord.next_goal.Given as goal

abbrev pub invariant-loop-position : goal.invariant-loop-position
invariant-loop-position g l = HasNoGoal (g.Self.Coord.coordinate l.self) l.from l.position
