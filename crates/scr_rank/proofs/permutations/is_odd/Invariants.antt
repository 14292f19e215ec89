use Rattle.std.proofs.Common.{◌≡◌, ◌+◌, drop}
use Rattle.scr_combinatorics.specs.Permutations.{inversions}
use Rattle.scr_rank.proofs.permutations.is_odd.Given as goal

abbrev pub invariant-loop-place : goal.invariant-loop-place
invariant-loop-place l = l.inversions + inversions (drop l.place l.list) ≡ inversions l.list
