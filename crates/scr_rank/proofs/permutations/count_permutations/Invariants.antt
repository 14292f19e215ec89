use Rattle.std.proofs.Common.{◌≡◌}
use Rattle.scr_combinatorics.specs.Permutations.{factorial}
use Rattle.scr_rank.proofs.permutations.count_permutations.Given as goal

abbrev pub invariant-loop-more : goal.invariant-loop-more
invariant-loop-more l = l.count ≡ factorial l.more
