use Rattle.std.proofs.Common.{ℕ, ◌<◌, [], ◌∷◌}
use Rattle.scr_clock.specs.Dials.{dials_turned, dial_turn}
use Rattle.scr_clock.specs.Sides.{SidesLead}
use Rattle.scr_clock.proofs.least.turns_of_side_lead.Given as goal

abbrev pub invariant-loop-pins : goal.invariant-loop-pins
invariant-loop-pins l =
    (p : ℕ) → 0 < p → p < l.pins → (a : ℕ) → a < 12 → SidesLead (l.back ∷ []) (dials_turned l.clock (dial_turn l.back p a)) → ⊥

abbrev pub invariant-loop-amount : goal.invariant-loop-amount
invariant-loop-amount l = record {
  before : (p : ℕ) → 0 < p → p < l.pins → (a : ℕ) → a < 12
      → SidesLead (l.back ∷ []) (dials_turned l.clock (dial_turn l.back p a)) → ⊥;
  here : (a : ℕ) → a < l.amount → SidesLead (l.back ∷ []) (dials_turned l.clock (dial_turn l.back l.pins a)) → ⊥;
}
