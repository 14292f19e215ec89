use Rattle.std.proofs.Common.{◌≡◌, ◌+◌, ◌<◌, ℕ, get_or}
use Rattle.scr_positions.specs.Coordinates.{value_at}
use Rattle.scr_positions.proofs.coordinate.Coord.look.Given as goal

abbrev pub invariant-loop-k : goal.invariant-loop-k
invariant-loop-k g l =
    (j : ℕ) → j < l.k → get_or l.into j 0 ≡ value_at l.values ((g.Self.Coord.coordinate l.self).after (l.start + j) l.turn)
