use Rattle.std.proofs.Common.{◌≡◌, drop}
use Rattle.scr_combinatorics.specs.Digits.{mixed_number}
use Rattle.scr_rank.proofs.mixed.MixedRadix.rank.Given as goal

abbrev pub invariant-loop-place : goal.invariant-loop-place
invariant-loop-place g l = l.number ≡ mixed_number (drop l.place l.self-inside.bases) (drop l.place l.value)
