-- The row of positions, worked by hand.
use Rattle.std.proofs.Common.{◌≡◌, ℕ, zero, suc, ◌+◌, ◌-◌, ◌<◌, ◌≤◌, Bool, List, [], ◌∷◌, length, get_or, Some, None, refl, arith}
use Rattle.std.specs.Prelude.{if◌then◌else◌, ◌==◌}
use borrow.Author.Tests.{eqb-true}
use Rattle.scr_positions.specs.Coordinates.{StaysBelow, moved, IsGoal}
use Rattle.scr_combinatorics.specs.Play.{play}
use Rattle.scr_combinatorics.specs.FirstWord.{LeadsTo, IsFirstWord, IsDistance}
use Rattle.scr_combinatorics.proofs.FirstWordLaws.{IsGoal-empty, LeadsTo-parts, IsFirstWord-goal, IsFirstWord-cons}
use Rattle.scr_table.specs.Row.{row_coordinate}
use Rattle.scr_table.proofs.StepLaws.{moved-turn}

-- turns lead from positions to positions
before_stays : (n p q : ℕ) (first : Bool) → p < n → (if first then None else Some (p - 1)) ≡ Some q → q < n
before_stays n p q first h0 h1 = grind arith

pub row_stays : (n : ℕ) → StaysBelow (row_coordinate n)
row_stays n = λ p t q lt turn e. before_stays n p q (p == 0) lt e

-- a turn leads down by one
step_down : (p q : ℕ) (first : Bool) → (if first then None else Some (p - 1)) ≡ Some q → p ≤ q + 1
step_down p q first h0 = grind arith

-- no word from a position is shorter than its number
pub row_least : (n p : ℕ) (w : List ℕ) → LeadsTo (moved (row_coordinate n)) (IsGoal (row_coordinate n)) p w
    → p ≤ length w
row_least n p [] l = omega (arith, eqb-true p 0 (IsGoal-empty (moved (row_coordinate n)) (IsGoal (row_coordinate n)) p l))
row_least n p (t ∷ w) l =
    let parts = LeadsTo-parts (moved (row_coordinate n)) (IsGoal (row_coordinate n)) p t w l in
    omega (arith, row_least n parts.0 w parts.2, step_down p parts.0 (p == 0) (moved-turn (row_coordinate n) p t parts.0 parts.1).1)

-- the words from the first three positions
pub leads_from_0 : LeadsTo (moved (row_coordinate 3)) (IsGoal (row_coordinate 3)) 0 []
unfolding play
leads_from_0 = record { end = 0; played = refl; goal = refl }

pub leads_from_1 : LeadsTo (moved (row_coordinate 3)) (IsGoal (row_coordinate 3)) 1 (0 ∷ [])
unfolding play
leads_from_1 = record { end = 0; played = refl; goal = refl }

pub leads_from_2 : LeadsTo (moved (row_coordinate 3)) (IsGoal (row_coordinate 3)) 2 (0 ∷ 0 ∷ [])
unfolding play
leads_from_2 = record { end = 0; played = refl; goal = refl }

-- the distance of each of the three is its number
pub row_distance : (p : ℕ) → p < 3 → IsDistance (moved (row_coordinate 3)) (IsGoal (row_coordinate 3)) p p
row_distance zero lt = record { reached = ∣ ([], leads_from_0, refl) ∣₁; least = row_least 3 0 }
row_distance (suc zero) lt = record { reached = ∣ (0 ∷ [], leads_from_1, refl) ∣₁; least = row_least 3 1 }
row_distance (suc (suc zero)) lt = record { reached = ∣ (0 ∷ 0 ∷ [], leads_from_2, refl) ∣₁; least = row_least 3 2 }
row_distance (suc (suc (suc p))) lt = absurd (omega arith)

-- the numbers of the three, read in a list
pub row_entry : (p : ℕ) → p < 3 → get_or (0 ∷ 1 ∷ 2 ∷ []) p 0 ≡ p
row_entry p h0 = grind arith

-- the first word from each of the three
pub row_first_word : IsFirstWord (moved (row_coordinate 3)) (IsGoal (row_coordinate 3)) 2 (0 ∷ 0 ∷ [])
row_first_word =
    IsFirstWord-cons (moved (row_coordinate 3)) (IsGoal (row_coordinate 3)) 2 1 0 1 (0 ∷ []) (row_distance 2 (omega arith))
    (record { leads = refl; lower = row_distance 1 (omega arith); first = λ u q lt e d. omega arith })
    (IsFirstWord-cons (moved (row_coordinate 3)) (IsGoal (row_coordinate 3)) 1 0 0 0 [] (row_distance 1 (omega arith))
    (record { leads = refl; lower = row_distance 0 (omega arith); first = λ u q lt e d. omega arith })
    (IsFirstWord-goal (moved (row_coordinate 3)) (IsGoal (row_coordinate 3)) 0 refl))
