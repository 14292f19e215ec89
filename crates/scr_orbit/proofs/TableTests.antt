-- Tests that the checker computes over a table of turns.
use Rattle.std.proofs.Common.{rules, arith, ◌≡◌, ℕ, ◌%◌, ◌<◌, Bool, true, List, length, eqb-true, ltb-true}
use Rattle.std.specs.Prelude.{All, ◌==◌, ◌&&◌, nat_lt}
use Rattle.std.specs.List.{list_all}
use Rattle.std.specs.Str.{bytes_eq}
use Rattle.std.proofs.lemmas.Bool.{and_parts}
use Rattle.std.proofs.lemmas.Slice.Eq.{bytes_eq-Decides}
use Rattle.std.proofs.lemmas.List.Elements.{All-weaker}
use Rattle.std.proofs.lemmas.List.Sums.{AllPass-from_list_all}
use Rattle.scr_combinatorics.specs.Lists.{total, numbers_from}
use Rattle.scr_combinatorics.specs.Permutations.{is_permutation}
use Rattle.scr_combinatorics.proofs.PermutationLaws.{IsPermutation-from_test}
use Rattle.scr_orbit.specs.Orbits.{Orbit, IsOrbit, IsZeroSumOrbit, solved_orbit, zeros}
use Rattle.scr_orbit.specs.declared.placed.PlaceTurn.{PlaceTurn}
use Rattle.scr_orbit.specs.PlaceTurns.{made_by}
use Rattle.scr_orbit.specs.InPlace.{AreDigitsInPlace}
use Rattle.scr_orbit.proofs.Parts.{ap_both}

-- what a test shows of each element
pub All-from_test : {X : Type 0} (p : X → Bool) (P : X → Type 0) → ((x : X) → p x ≡ true → P x) → (xs : List X)
    → list_all p xs ≡ true → All P xs
All-from_test p P shows xs h = All-weaker (λ x. p x ≡ true) P shows xs (AllPass-from_list_all p xs h)

-- what three tests show
pub and_three : (a b c : Bool) → (a && (b && c)) ≡ true → (a ≡ true) × (b ≡ true) × (c ≡ true)
and_three a b c h = grind (arith, and_parts)

-- an orbit of n places, as a test
abbrev pub is_orbit : ℕ → ℕ → Orbit → Bool
is_orbit n modulus r =
    (is_permutation n r.pieces && (length r.digits == n)) && list_all (λ d. nat_lt d modulus) r.digits

pub IsOrbit-from_test : (n m : ℕ) (r : Orbit) → is_orbit n m r ≡ true → IsOrbit n m r
IsOrbit-from_test n m r h =
    let sizes = is_permutation n r.pieces && (length r.digits == n) in
    let both = and_parts sizes (list_all (λ d. nat_lt d m) r.digits) h in
    let first = and_parts (is_permutation n r.pieces) (length r.digits == n) both.0 in
    record {
      pieces = IsPermutation-from_test n r.pieces first.0;
      size = eqb-true (length r.digits) n first.1;
      below = All-from_test (λ d. nat_lt d m) (λ d. d < m) (λ d. ltb-true d m) r.digits both.1;
    }

-- and so each turn of a table
pub All-orbits : (n m : ℕ) (ts : List (PlaceTurn n))
    → list_all (λ t. is_orbit n m (made_by t)) ts ≡ true → All (λ t. IsOrbit n m (made_by t)) ts
All-orbits n m ts h = search (arith, rules, All-from_test, IsOrbit-from_test)

-- the solved one
abbrev pub is_still : ℕ → Orbit → Bool
is_still n r = bytes_eq r.pieces (numbers_from 0 n) && bytes_eq r.digits (zeros n)

pub still : (n : ℕ) (r : Orbit) → is_still n r ≡ true → r ≡ solved_orbit n
unfolding solved_orbit
still n r h = grind (arith, and_parts, ap_both, bytes_eq-Decides)

-- one whose digits sum to 0
abbrev pub is_zero_sum : ℕ → ℕ → Orbit → Bool
is_zero_sum n modulus r = is_orbit n modulus r && (total r.digits % modulus == 0)

pub IsZeroSumOrbit-from_test : (n m : ℕ) (r : Orbit) → is_zero_sum n m r ≡ true
    → IsZeroSumOrbit n m r
IsZeroSumOrbit-from_test n m r h = grind (arith, and_parts, IsOrbit-from_test)

-- and so each turn of a table
pub All-zero_sum : (n m : ℕ) (ts : List (PlaceTurn n))
    → list_all (λ t. is_zero_sum n m (made_by t)) ts ≡ true → All (λ t. IsZeroSumOrbit n m (made_by t)) ts
All-zero_sum n m ts h = search (arith, rules, All-from_test, IsZeroSumOrbit-from_test)

-- ---- digits of pieces that stay at their places

abbrev pub are_in_place : ℕ → ℕ → List ℕ → Bool
are_in_place n modulus ds = (length ds == n) && list_all (λ d. nat_lt d modulus) ds

pub AreDigitsInPlace-from_test : (n m : ℕ) (ds : List ℕ) → are_in_place n m ds ≡ true → AreDigitsInPlace n m ds
AreDigitsInPlace-from_test n m ds h =
    let both = and_parts (length ds == n) (list_all (λ d. nat_lt d m) ds) h in
    record { size = eqb-true (length ds) n both.0; below = All-from_test (λ d. nat_lt d m) (λ d. d < m) (λ d. ltb-true d m) ds both.1 }

-- zeros, which turn nothing
pub zeros_only : (n : ℕ) (ds : List ℕ) → bytes_eq ds (zeros n) ≡ true → ds ≡ zeros n
zeros_only n ds h = (bytes_eq-Decides ds (zeros n)).0 h
