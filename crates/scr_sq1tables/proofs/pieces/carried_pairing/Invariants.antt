use Rattle.std.proofs.Common.{◌≡◌, ℕ, ◌<◌, length, slice_index}
use Rattle.scr_combinatorics.specs.Permutations.{place_of}
use Rattle.scr_sq1tables.proofs.pieces.carried_pairing.Given as goal

abbrev pub invariant-loop-place : goal.invariant-loop-place
invariant-loop-place l = record {
  size : length l.carried ≡ 8;
  filled : (k : ℕ) → k < l.place
      → slice_index l.carried k ≡ place_of (slice_index l.partners (slice_index l.places k)) l.places;
}
