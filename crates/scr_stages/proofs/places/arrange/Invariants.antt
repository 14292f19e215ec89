use Rattle.std.proofs.Common.{◌≡◌, ℕ, ◌<◌, get_or}
use Rattle.scr_combinatorics.specs.Permutations.{place_of}
use Rattle.scr_stages.proofs.places.arrange.Given as goal

abbrev pub invariant-loop-place : goal.invariant-loop-place
invariant-loop-place l = (k : ℕ) → k < l.place → get_or l.out k 0 ≡ get_or l.pieces (place_of k l.places) 0
