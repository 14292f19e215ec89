use Rattle.std.proofs.Common.{◌<◌, ◌*◌, ◌^◌, suc, ap, arith}
use Rattle.scr_combinatorics.specs.Permutations.{factorial}
use Rattle.scr_rank.proofs.PermutationSteps.{factorial-small}
use Rattle.scr_rank.proofs.permutations.count_permutations.Goals as goal

pub overflow_mul-count : goal.overflow_mul-count
overflow_mul-count c =
    let more = c.loop-more.more in
    let next : factorial (suc more) < 2 ^ 32 = factorial-small (suc more) (omega arith) in
    omega (arith, next, ap (λ n. n * suc more) c.loop-more.invariant)
