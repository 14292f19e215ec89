use Rattle.std.proofs.Common.{◌≡◌, ℕ, ◌+◌, ◌*◌, ◌%◌, ◌<◌, length, slice_index}
use Rattle.scr_sq1tables.specs.Tables.{pair_of, is_larger, smaller}
use Rattle.scr_sq1tables.proofs.pieces.pieces_at.Given as goal

abbrev pub invariant-loop-place : goal.invariant-loop-place
invariant-loop-place l = record {
  size : length l.pieces ≡ 8;
  filled : (k : ℕ) → k < l.place
      → slice_index l.pieces k ≡ slice_index smaller (slice_index l.standing (slice_index pair_of k))
      + 2 * ((slice_index l.turned (slice_index pair_of k) + slice_index is_larger k) % 2);
}
