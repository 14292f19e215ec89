use Rattle.std.proofs.Common.{◌≡◌, ℕ, ◌<◌, Some, get_or}
use Rattle.scr_positions.specs.Coordinates.{moved}
use Rattle.scr_table.proofs.table.DistanceTable.first_lowering.Given as goal

abbrev pub invariant-loop-turn : goal.invariant-loop-turn
invariant-loop-turn g l =
    (t q : ℕ) → t < l.turn → moved (g.C.Coord.coordinate l.coord) l.position t ≡ Some q → get_or l.self.distances q 0 ≡ l.lower → ⊥
