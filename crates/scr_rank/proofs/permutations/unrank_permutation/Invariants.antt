use Rattle.std.proofs.Common.{◌-◌, drop}
use Rattle.scr_rank.proofs.PermutationSteps.{UnrankStep}
use Rattle.scr_rank.proofs.permutations.unrank_permutation.Given as goal

abbrev pub invariant-loop-place : goal.invariant-loop-place
invariant-loop-place l = UnrankStep (l.len - l.place) l.fn.number l.rest (drop l.place l.out)
