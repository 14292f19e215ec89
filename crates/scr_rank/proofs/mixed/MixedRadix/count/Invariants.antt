use Rattle.std.proofs.Common.{◌≡◌, drop}
use Rattle.scr_combinatorics.specs.Digits.{product}
use Rattle.scr_rank.proofs.mixed.MixedRadix.count.Given as goal

abbrev pub invariant-loop-place : goal.invariant-loop-place
invariant-loop-place g l = l.count ≡ product (drop l.place l.self-inside.bases)
