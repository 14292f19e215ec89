use Rattle.std.proofs.Common.{ℕ, ◌<◌}
use Rattle.scr_combinatorics.specs.Lists.{occurrences}
use Rattle.scr_orbit.proofs.validity.is_permutation.Given as goal

abbrev pub invariant-loop-number : goal.invariant-loop-number
invariant-loop-number l = (k : ℕ) → k < l.number → 0 < occurrences k l.list
