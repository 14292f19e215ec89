use Rattle.std.proofs.Common.{◌≡◌, ◌-◌, ◌%◌, ◌++◌, replicate, take, length}
use Rattle.scr_combinatorics.specs.Lists.{total}
use Rattle.scr_combinatorics.specs.Digits.{mixed_digits}
use Rattle.scr_rank.proofs.digits.TwistRank.unrank.Given as goal

abbrev pub invariant-loop-place : goal.invariant-loop-place
invariant-loop-place g l = record {
  size : length l.out ≡ g.row.N;
  written : take l.place l.out ++ mixed_digits (replicate (g.row.N - 1 - l.place) g.row.BASE) l.rest ≡ mixed_digits (replicate (g.row.N - 1) g.row.BASE) l.fn.number;
  summed : l.sum ≡ total (take l.place l.out) % g.row.BASE;
}
