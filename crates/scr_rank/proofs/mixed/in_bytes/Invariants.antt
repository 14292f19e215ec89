use Rattle.std.proofs.Common.{◌≡◌, ℕ, ◌<◌, get_or, length}
use Rattle.scr_rank.proofs.mixed.in_bytes.Given as goal

abbrev pub invariant-loop-place : goal.invariant-loop-place
invariant-loop-place g l = record {
  size : length l.bytes ≡ g.row.D;
  written : (k : ℕ) → k < l.place → get_or l.bytes k 0 ≡ get_or l.digits k 0;
}
