use Rattle.std.proofs.Common.{◌≡◌, ◌-◌, drop, length}
use Rattle.scr_combinatorics.specs.Permutations.{factorial, permutation_number}
use Rattle.scr_rank.proofs.permutations.rank_permutation.Given as goal

abbrev pub invariant-loop-place : goal.invariant-loop-place
invariant-loop-place l = record {
  counted : l.number ≡ permutation_number (drop l.place l.list);
  weighed : l.weight ≡ factorial (length l.list - l.place);
}
