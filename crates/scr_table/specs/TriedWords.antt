-- Whether a state needs at least so many turns, as a test that tries them all.
use Rattle.std.specs.Prelude.{ℕ, zero, suc, Bool, true, false, ◌||◌, not, Option, Some, None}
use Rattle.std.specs.List.{list_any}
use Rattle.scr_combinatorics.specs.Lists.{numbers_from}

-- a state, if there is one, passes a test
abbrev pub passes : {S : Type 0} → (S → Bool) → Option S → Bool
passes test None = false
passes test (Some s) = test s

-- Whether a word of at most so many turns leads to solved. The turns have the numbers below a count, and a turn gives a
-- state or nothing.
unfoldable pub leads_within : {S : Type 0} → ℕ → (S → ℕ → Option S) → (S → Bool) → ℕ → S → Bool
leads_within turns after is_solved zero s = is_solved s
leads_within turns after is_solved (suc fewer) s =
    is_solved s || list_any (λ t. passes (leads_within turns after is_solved fewer) (after s t)) (numbers_from 0 turns)

-- Whether a state needs at least so many turns: no fewer lead to solved.
unfoldable pub needs_test : {S : Type 0} → ℕ → (S → ℕ → Option S) → (S → Bool) → S → ℕ → Bool
needs_test turns after is_solved s zero = true
needs_test turns after is_solved s (suc fewer) = not (leads_within turns after is_solved fewer s)
