use Rattle.std.proofs.Common.{arith}
use Rattle.scr_rank.proofs.PermutationSteps.{RankStep, rank_step}
use Rattle.scr_rank.proofs.permutations.rank_permutation.Goals as goal
use Rattle.scr_rank.proofs.permutations.rank_permutation.Goals.{After-count_lesser}

step : (c : After-count_lesser)
    → RankStep c.args.list.now c.loop-place.place c.loop-place.number c.loop-place.weight c.count_lesser.result
step c = rank_step c.args.list.now c.loop-place.place c.loop-place.number c.loop-place.weight c.count_lesser.result c.requires c.loop-place-test.true c.loop-place.auto.place c.loop-place.invariant.counted c.loop-place.invariant.weighed c.count_lesser.ensures

pub overflow_mul-number : goal.overflow_mul-number
overflow_mul-number c = let s = step c in omega (arith, s.low)

pub overflow_add-number : goal.overflow_add-number
overflow_add-number c = let s = step c in omega (arith, s.low)

pub overflow_mul-weight : goal.overflow_mul-weight
overflow_mul-weight c = let s = step c in omega (arith, s.low_weight)

pub loop-place-preserved : goal.loop-place-preserved
loop-place-preserved c = let s = step c in record { counted = s.counted; weighed = s.weighed }
