use Rattle.std.proofs.Common.{◌≡◌, ℕ, ◌+◌, ◌<◌, ◌≤◌, get_or}
use Rattle.scr_search.proofs.outlook.read_from.Given as goal

abbrev pub invariant-loop-k : goal.invariant-loop-k
invariant-loop-k l =
    ((j : ℕ) → j < l.k → get_or l.into j 0 ≡ get_or l.table.distances (l.start + j) 0)
    × ((j : ℕ) → j < l.k → get_or l.into j 0 ≤ 24)
