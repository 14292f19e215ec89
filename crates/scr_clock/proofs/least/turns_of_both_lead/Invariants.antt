use Rattle.std.proofs.Common.{ℕ, ◌<◌, true, false, [], ◌∷◌}
use Rattle.scr_clock.specs.Dials.{dials_turned, dial_turn}
use Rattle.scr_clock.specs.Sides.{SidesLead}
use Rattle.scr_clock.proofs.least.turns_of_both_lead.Given as goal

abbrev pub invariant-loop-pins : goal.invariant-loop-pins
invariant-loop-pins l =
    (p : ℕ) → 0 < p → p < l.pins → SidesLead (false ∷ []) (dials_turned l.clock (dial_turn true p l.amount)) → ⊥
