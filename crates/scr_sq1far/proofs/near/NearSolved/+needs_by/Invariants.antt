use Rattle.std.proofs.Common.{◌≡◌, ℕ, ◌-◌, ◌<◌, Some}
use Rattle.std.specs.Prelude.{not, ◌==◌}
use Rattle.scr_notation.specs.TurnNumbers.{layer_turn_at}
use Rattle.scr_sq1.specs.Units.{Sq1State, sq1_after}
use Rattle.scr_sq1far.specs.Alternating.{NeedsBy}
use Rattle.scr_sq1far.proofs.near.NearSolved.+needs_by.Given as goal

abbrev pub decreases-needs_by : goal.decreases-needs_by
decreases-needs_by l = l.least

abbrev pub invariant-loop-turn : goal.invariant-loop-turn
invariant-loop-turn l = (n : ℕ) (r : Sq1State) → n < l.turn → (n == 65) ≡ l.twists
    → sq1_after l.state (layer_turn_at n) ≡ Some r → NeedsBy (not l.twists) r (l.least - 1)
