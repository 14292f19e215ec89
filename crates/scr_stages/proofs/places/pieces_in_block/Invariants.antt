use Rattle.std.proofs.Common.{◌≡◌, ℕ, ◌<◌, get_or}
use Rattle.scr_combinatorics.specs.Permutations.{place_of}
use Rattle.scr_stages.proofs.places.pieces_in_block.Given as goal

abbrev pub invariant-loop-place : goal.invariant-loop-place
invariant-loop-place l = (k : ℕ) → k < l.place → get_or l.out k 0 ≡ place_of (get_or l.pieces (get_or l.block k 0) 0) l.block
