use Rattle.std.proofs.Common.{◌≡◌}
use Rattle.scr_combinatorics.specs.PlaceSets.{binomial}
use Rattle.scr_rank.proofs.place_sets.count_sets.Given as goal

abbrev pub invariant-loop-taken : goal.invariant-loop-taken
invariant-loop-taken l = l.count ≡ binomial l.places l.taken
