use Rattle.std.proofs.Common.{◌≡◌, ℕ, ◌<◌}
use Rattle.scr_cube.specs.Held.{hold_centres}
use Rattle.scr_cube.proofs.held.Held.hold.Given as goal

abbrev pub invariant-loop-hold : goal.invariant-loop-hold
invariant-loop-hold l = (k : ℕ) → k < l.hold → hold_centres k ≡ l.centres → ⊥
