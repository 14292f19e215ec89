use Rattle.std.proofs.Common.{rules, arith}
use Rattle.scr_rank.proofs.PermutationSteps.{unrank_step}
use Rattle.scr_rank.proofs.permutations.unrank_permutation.Goals as goal

pub loop-place-preserved : goal.loop-place-preserved
loop-place-preserved c = search (arith, rules, unrank_step)
