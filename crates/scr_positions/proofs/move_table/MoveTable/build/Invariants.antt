use Rattle.std.proofs.Common.{◌≡◌}
use Rattle.scr_positions.proofs.MoveLaws.{rows_of}
use Rattle.scr_positions.proofs.move_table.MoveTable.build.Given as goal

abbrev pub invariant-loop-turn : goal.invariant-loop-turn
invariant-loop-turn g l = l.targets.items ≡ rows_of (g.C.Coord.coordinate l.coord) l.turn
