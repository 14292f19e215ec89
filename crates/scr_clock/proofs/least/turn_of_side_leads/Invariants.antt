use Rattle.std.proofs.Common.{◌≡◌, ℕ, ◌<◌}
use Rattle.scr_clock.specs.Dials.{dials_turned, solved, dial_turn}
use Rattle.scr_clock.proofs.least.turn_of_side_leads.Given as goal

abbrev pub invariant-loop-pins : goal.invariant-loop-pins
invariant-loop-pins l =
    (p : ℕ) → 0 < p → p < l.pins → dials_turned l.clock (dial_turn l.back p l.amount) ≡ solved → ⊥
