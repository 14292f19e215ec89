-- Whether a Clock needs at least so many turns, as a test that tries all turns.
use Rattle.std.specs.Prelude.{ℕ, zero, suc, ◌+◌, ◌↔◌, Bool, true, false, not, ◌==◌, ◌||◌, IsTrue, List}
use Rattle.std.specs.List.{list_all}
use Rattle.scr_combinatorics.specs.Reach.{Needs}
use Rattle.scr_clock.specs.Dials.{IsClock, DialTurn, dials_turned, clock_puzzle, dial_turn}

-- Whether some number below a bound passes a test.
unfoldable pub some_below : ℕ → (ℕ → Bool) → Bool
some_below zero passes = false
some_below (suc n) passes = passes n || some_below n passes

-- Whether some turn of a side passes: each of the pin sets 1 to 15 by each of the amounts 0 to 11.
unfoldable pub some_on : Bool → (DialTurn → Bool) → Bool
some_on back passes =
    some_below 15 (λ p. some_below 12 (λ a. passes (dial_turn back (p + 1) a)))

-- Whether some turn of either side passes.
unfoldable pub some_turn : (DialTurn → Bool) → Bool
some_turn passes = some_on false passes || some_on true passes

-- Whether all dials show 12.
unfoldable pub all_twelve : List ℕ → Bool
all_twelve dials = list_all (λ d. d == 0) dials

-- Whether that many turns, some of them by 0 perhaps, lead to solved.
unfoldable pub turns_lead : ℕ → List ℕ → Bool
turns_lead zero dials = all_twelve dials
turns_lead (suc n) dials = some_turn (λ t. turns_lead n (dials_turned dials t))

-- Whether a Clock needs at least so many turns: no fewer lead to solved.
unfoldable pub needs_test_clock : List ℕ → ℕ → Bool
needs_test_clock dials zero = true
needs_test_clock dials (suc fewer) = not (turns_lead fewer dials)

-- The test tells exactly what a minimum says, of each Clock.
abbrev pub IsTestExact : Type 0
IsTestExact = (dials : List ℕ) (least : ℕ) → IsClock dials
    → IsTrue (needs_test_clock dials least) ↔ Needs clock_puzzle dials least
