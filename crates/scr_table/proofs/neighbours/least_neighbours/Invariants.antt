use Rattle.std.proofs.Common.{ℕ, ◌+◌, ◌<◌, get_or}
use Rattle.scr_table.proofs.FilledLaws.{IsLeast}
use Rattle.scr_table.proofs.neighbours.least_neighbours.Given as goal

abbrev pub invariant-loop-turn : goal.invariant-loop-turn
invariant-loop-turn g l =
    (k : ℕ) → k < l.count → IsLeast (g.C.Coord.coordinate l.coord) l.entries (l.start + k) l.turn (get_or l.least k 0)
