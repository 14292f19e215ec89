use Rattle.std.proofs.Common.{◌≡◌, drop}
use Rattle.scr_sq1far.specs.Levels.{units_key}
use Rattle.scr_sq1far.proofs.keys.key_of.Given as goal

abbrev pub invariant-loop-place : goal.invariant-loop-place
invariant-loop-place l = l.key ≡ units_key (drop l.place l.units)
