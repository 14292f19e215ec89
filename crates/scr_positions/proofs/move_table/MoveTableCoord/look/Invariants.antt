use Rattle.std.proofs.Common.{◌≡◌, ◌+◌, ◌<◌, ℕ, get_or}
use Rattle.scr_positions.specs.Coordinates.{value_at}
use Rattle.scr_positions.specs.Moves.{moves_coordinate}
use Rattle.scr_positions.proofs.move_table.MoveTableCoord.look.Given as goal

abbrev pub invariant-loop-k : goal.invariant-loop-k
invariant-loop-k l =
    (j : ℕ) → j < l.k → get_or l.into j 0 ≡ value_at l.values ((moves_coordinate l.self).after (l.start + j) l.turn)
