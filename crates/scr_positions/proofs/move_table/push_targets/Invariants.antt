use Rattle.std.proofs.Common.{◌≡◌, ◌++◌}
use Rattle.scr_positions.specs.Moves.{moves_row}
use Rattle.scr_positions.proofs.move_table.push_targets.Given as goal

abbrev pub invariant-loop-position : goal.invariant-loop-position
invariant-loop-position g l = l.targets.items ≡ l.initial.targets.items ++ moves_row (g.C.Coord.coordinate l.coord) l.turn l.position
