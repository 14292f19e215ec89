use Rattle.std.proofs.Common.{◌≡◌, ℕ, ◌<◌, ◌≤◌, get_or, min}
use Rattle.scr_table.proofs.neighbours.lower.Given as goal

abbrev pub invariant-loop-k : goal.invariant-loop-k
invariant-loop-k l =
    ((j : ℕ) → j < l.k → get_or l.least j 0 ≡ min (get_or l.initial.least j 0) (get_or l.seen j 0))
    × ((j : ℕ) → l.k ≤ j → get_or l.least j 0 ≡ get_or l.initial.least j 0)
