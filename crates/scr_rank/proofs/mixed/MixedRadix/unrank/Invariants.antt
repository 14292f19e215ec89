use Rattle.std.proofs.Common.{◌≡◌, ◌++◌, take, drop, length}
use Rattle.scr_combinatorics.specs.Digits.{mixed_digits}
use Rattle.scr_rank.proofs.mixed.MixedRadix.unrank.Given as goal

abbrev pub invariant-loop-place : goal.invariant-loop-place
invariant-loop-place g l = record {
  size : length l.out ≡ g.row.D;
  written : take l.place l.out ++ mixed_digits (drop l.place l.self-inside.bases) l.rest ≡ mixed_digits l.self-inside.bases l.fn.number;
}
