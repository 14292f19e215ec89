-- Laws of the places of marked pieces, on which it rests that place sets are a coordinate.
use Rattle.std.proofs.Common.{◌≡◌, ℕ, zero, suc, ◌+◌, ◌<◌, ◌≤◌, Bool, false, cond, eqb, List, [], ◌∷◌, length, refl, sym, ap, ◌∙◌, subst, arith, inl, inr}
use Rattle.std.specs.Prelude.{All, ◌||◌}
use Rattle.std.proofs.lemmas.Bool.{cases_eq, eq-eqb, ne_eqb}
use Rattle.std.proofs.lemmas.List.Elements.{All-head, All-tail, All-nil, All-cons}
use Rattle.scr_combinatorics.specs.Lists.{numbers_from}
use Rattle.scr_combinatorics.specs.Permutations.{IsPermutation}
use Rattle.scr_combinatorics.specs.PlaceSets.{IsPlaceSetFrom, IsPlaceSet}
use Rattle.scr_combinatorics.proofs.Counts.{one_if, total_by, total_by-rearranged}
use Rattle.scr_combinatorics.proofs.PlaceSets.{IsPlaceSetFrom-lower}
use Rattle.scr_combinatorics.proofs.PermutationLaws.{IsRearranged-permutations, IsPermutation-numbers_from}
use Rattle.scr_orbit.specs.Orbits.{Orbit}
use Rattle.scr_coord.specs.Projections.{marked_from, stands_in, turned_set}

-- ---- the places of marked pieces

-- a place, and the later ones
IsPlaceSetFrom-marked_by : (marked : ℕ → Bool) (low n : ℕ) (b : Bool) (rest : List ℕ) → low < n
    → IsPlaceSetFrom (suc low) n rest → IsPlaceSetFrom low n (cond b (low ∷ rest) rest)
IsPlaceSetFrom-marked_by marked low n b rest h0 h1 = grind (arith, IsPlaceSetFrom-lower)

-- the places of marked pieces are an increasing list
pub IsPlaceSetFrom-marked : (marked : ℕ → Bool) (low n : ℕ) (xs : List ℕ) → n ≡ low + length xs
    → IsPlaceSetFrom low n (marked_from marked low xs)
IsPlaceSetFrom-marked marked low n [] e = tt
IsPlaceSetFrom-marked marked low n (x ∷ xs) e =
    grind (arith, IsPlaceSetFrom-marked_by, IsPlaceSetFrom-marked marked (suc low) n xs (omega (arith, e)))

length_by : (b : Bool) (low : ℕ) (rest : List ℕ) → length (cond b (low ∷ rest) rest) ≡ one_if b + length rest
length_by b low rest = grind arith

-- there are as many as marked pieces
pub length-marked : (marked : ℕ → Bool) (low : ℕ) (xs : List ℕ)
    → length (marked_from marked low xs) ≡ total_by (λ x. one_if (marked x)) xs
length-marked marked low [] = refl
length-marked marked low (x ∷ xs) = grind (arith, length_by, one_if, length-marked marked (suc low) xs)

-- marks that agree on each piece give the same places
pub marked-same : (marked other : ℕ → Bool) (low : ℕ) (xs : List ℕ) → All (λ x. marked x ≡ other x) xs
    → marked_from marked low xs ≡ marked_from other low xs
marked-same marked other low [] h = refl
marked-same marked other low (x ∷ xs) h =
    let P : ℕ → Type 0 = λ x. marked x ≡ other x in
    grind (arith, All-head, All-tail, marked-same marked other (suc low) xs (All-tail P x xs h))

-- ---- the elements of a set

or_false : (a b : Bool) → a ≡ false → b ≡ false → (a || b) ≡ false
or_false a b e f = ap (λ x. x || b) e ∙ f

-- no place stands among later ones
pub stands_in-later : (y n : ℕ) (xs : List ℕ) → IsPlaceSetFrom (suc y) n xs → stands_in xs y ≡ false
stands_in-later y n [] h = refl
stands_in-later y n (x ∷ xs) h =
    let above : suc y ≤ x = h.0 in
    let apart : x ≡ y → ⊥ = λ e. omega arith in
    let rest : IsPlaceSetFrom (suc x) n xs = h.2 in
    or_false (eqb x y) (stands_in xs y) (ne_eqb x y apart) (stands_in-later y n xs (lowered xs rest above))
  where
    lowered : (zs : List ℕ) → IsPlaceSetFrom (suc x) n zs → suc y ≤ x → IsPlaceSetFrom (suc y) n zs
    lowered [] h le = tt
    lowered (z ∷ zs) h le = (omega (arith, h.0), h.1, h.2)

All-numbers_from : (P : ℕ → Type 0) (start count : ℕ) → ((y : ℕ) → start ≤ y → P y) → All P (numbers_from start count)
All-numbers_from P start zero h = All-nil P
All-numbers_from P start (suc count) h =
    All-cons P start (numbers_from (suc start) count) (h start (omega arith))
    (All-numbers_from P (suc start) count (λ y le. h y (omega arith)))

-- the places of the elements of a set among the numbers in order are the set
pub marked-own : (low count n : ℕ) (set : List ℕ) → n ≡ low + count → IsPlaceSetFrom low n set
    → marked_from (stands_in set) low (numbers_from low count) ≡ set
marked-own low zero n [] e h = refl
marked-own low zero n (x ∷ xs) e h = absurd (omega (arith, h.0, h.1))
marked-own low (suc count) n [] e h = marked-own (suc low) count n [] (omega arith) tt
marked-own low (suc count) n (x ∷ xs) e h =
    let rest = marked_from (stands_in (x ∷ xs)) (suc low) (numbers_from (suc low) count) in
    elim (cases_eq x low) [
      | inl here ↦
          ap (λ b. cond (b || stands_in xs low) (low ∷ rest) rest) (eq-eqb x low here)
          ∙ ap (λ ys. low ∷ ys)
          (marked-same (stands_in (x ∷ xs)) (stands_in xs) (suc low) (numbers_from (suc low) count)
          (All-numbers_from (λ y. stands_in (x ∷ xs) y ≡ stands_in xs y) (suc low) count
          (λ y le. ap (λ b. b || stands_in xs y) (ne_eqb x y (λ same. omega arith))))
          ∙ marked-own (suc low) count n xs (omega arith) (subst (λ k. IsPlaceSetFrom (suc k) n xs) here h.2))
          ∙ ap (λ y. y ∷ xs) (sym here)
      | inr other ↦
          let low_is : low ≤ x = h.0 in
          let above : suc low ≤ x = omega arith in
          ap (λ b. cond b (low ∷ rest) rest) (stands_in-later low n (x ∷ xs) (above, h.1, h.2))
          ∙ marked-own (suc low) count n (x ∷ xs) (omega arith) (above, h.1, h.2)
    ]

-- a turned set is a set of as many places
pub IsPlaceSet-turned : (n k : ℕ) (set : List ℕ) (r : Orbit) → IsPlaceSet n k set → IsPermutation n r.pieces
    → IsPlaceSet n k (turned_set set r)
IsPlaceSet-turned n k set r h turn = record {
  size = length-marked (stands_in set) 0 r.pieces
      ∙ total_by-rearranged (λ x. one_if (stands_in set x)) r.pieces (numbers_from 0 n) (IsRearranged-permutations n r.pieces (numbers_from 0 n) turn (IsPermutation-numbers_from n))
      ∙ sym (length-marked (stands_in set) 0 (numbers_from 0 n))
      ∙ ap length (marked-own 0 n n set (omega arith) h.increasing)
      ∙ h.size;
  increasing = IsPlaceSetFrom-marked (stands_in set) 0 n r.pieces (omega (arith, turn.size));
}
