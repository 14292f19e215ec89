-- The places of marked pieces go along with turns.
use Rattle.std.proofs.Common.{◌≡◌, ℕ, zero, suc, ◌+◌, ◌<◌, Bool, true, false, cond, List, [], ◌∷◌, length, slice_index, map, refl, sym, ap, ◌∙◌, arith}
use Rattle.std.specs.Prelude.{All, ◌||◌}
use Rattle.std.proofs.lemmas.Bool.{eq-eqb}
use Rattle.std.proofs.lemmas.List.Elements.{All-head, All-tail, All-nil, All-cons}
use Rattle.scr_combinatorics.specs.Lists.{numbers_from, pick}
use Rattle.scr_combinatorics.specs.Permutations.{IsPermutation}
use Rattle.scr_combinatorics.specs.PlaceSets.{IsPlaceSet, place_set_number}
use Rattle.scr_combinatorics.proofs.Counts.{one_if, total_by-rearranged}
use Rattle.scr_combinatorics.proofs.PermutationLaws.{IsRearranged-permutations, IsPermutation-numbers_from}
use Rattle.scr_orbit.specs.Orbits.{Orbit, IsOrbit, turned_orbit}
use Rattle.scr_orbit.proofs.OrbitLaws.{places_in, orbit_laws}
use Rattle.scr_coord.specs.Projections.{marked_from, marked_places, stands_in, turned_set, place_set_view, projection, orbit_space}
use Rattle.scr_coord.proofs.MarkedLaws.{length-marked, marked-same, stands_in-later, IsPlaceSetFrom-marked}
use Rattle.scr_positions.specs.SearchSpaces.{positions, Follows}
use Rattle.scr_coord.proofs.ListViews.{IsListView-place_sets}
use Rattle.scr_coord.proofs.ProjectionLaws.{Follows-projection}

-- a place stands among those of marked pieces exactly where its piece is marked
stands_in-first : (marked : ℕ → Bool) (low : ℕ) (x : ℕ) (xs : List ℕ) (b : Bool) → marked x ≡ b
    → stands_in (cond b (low ∷ marked_from marked (suc low) xs) (marked_from marked (suc low) xs)) low ≡ b
stands_in-first marked low x xs true e = ap (λ b. b || stands_in (marked_from marked (suc low) xs) low) (eq-eqb low low refl)
stands_in-first marked low x xs false e =
    stands_in-later low (suc low + length xs) (marked_from marked (suc low) xs) (IsPlaceSetFrom-marked marked (suc low) (suc low + length xs) xs refl)

stands_in-rest : (low y : ℕ) (rest : List ℕ) (b : Bool) → low < y
    → stands_in (cond b (low ∷ rest) rest) y ≡ stands_in rest y
stands_in-rest low y rest b h0 = grind arith

pub stands_in-marked : (marked : ℕ → Bool) (low k : ℕ) (xs : List ℕ) → k < length xs
    → stands_in (marked_from marked low xs) (low + k) ≡ marked (slice_index xs k)
stands_in-marked marked low k [] lt = absurd (omega arith)
stands_in-marked marked low zero (x ∷ xs) lt = grind (arith, stands_in-first marked low x xs (marked x) refl)
stands_in-marked marked low (suc k) (x ∷ xs) lt =
    grind (arith, stands_in-rest, stands_in-marked marked (suc low) k xs (omega arith))

-- marks of picked pieces are marks of the places that they are picked from
pub marked-map : (marked : ℕ → Bool) (f : ℕ → ℕ) (low : ℕ) (ks : List ℕ)
    → marked_from marked low (map f ks) ≡ marked_from (λ k. marked (f k)) low ks
marked-map marked f low [] = refl
marked-map marked f low (k ∷ ks) = ap (λ rest. cond (marked (f k)) (low ∷ rest) rest) (marked-map marked f (suc low) ks)

All-stand : (marked : ℕ → Bool) (xs ks : List ℕ) → All (λ k. k < length xs) ks
    → All (λ k. marked (slice_index xs k) ≡ stands_in (marked_places marked xs) k) ks
All-stand marked xs [] below = All-nil (λ k. marked (slice_index xs k) ≡ stands_in (marked_places marked xs) k)
All-stand marked xs (k ∷ ks) below =
    let here : 0 + k ≡ k = omega arith in
    All-cons (λ k. marked (slice_index xs k) ≡ stands_in (marked_places marked xs) k) k ks
    (sym (stands_in-marked marked 0 k xs (All-head (λ k. k < length xs) k ks below)) ∙ ap (stands_in (marked_places marked xs)) here)
    (All-stand marked xs ks (All-tail (λ k. k < length xs) k ks below))

-- After a turn marked pieces stand at the turned set of the places where they stood.
pub marked-turned : (marked : ℕ → Bool) (xs : List ℕ) (r : Orbit) → All (λ k. k < length xs) r.pieces
    → marked_places marked (pick xs r.pieces) ≡ turned_set (marked_places marked xs) r
marked-turned marked xs r below = grind (arith, marked-map, marked-same, All-stand)

-- and are as many as before
pub IsPlaceSet-marked : (n k : ℕ) (marked : ℕ → Bool) (xs : List ℕ) → IsPermutation n xs
    → length (marked_places marked (numbers_from 0 n)) ≡ k → IsPlaceSet n k (marked_places marked xs)
IsPlaceSet-marked n k marked xs h e = record {
  size = length-marked marked 0 xs
      ∙ total_by-rearranged (λ x. one_if (marked x)) xs (numbers_from 0 n) (IsRearranged-permutations n xs (numbers_from 0 n) h (IsPermutation-numbers_from n))
      ∙ sym (length-marked marked 0 (numbers_from 0 n)) ∙ e;
  increasing = IsPlaceSetFrom-marked marked 0 n xs (omega (arith, h.size));
}

pub Follows-place_sets : (n m k : ℕ) (marked : ℕ → Bool) (home : List ℕ) (turns : List Orbit) → 0 < m → All (IsOrbit n m) turns
    → IsPlaceSet n k home → length (marked_places marked (numbers_from 0 n)) ≡ k
    → Follows (orbit_space m turns (IsOrbit n m) (λ o. marked_places marked o.pieces ≡ home)) (positions (projection (place_set_view n k home) turns))
    (λ o. place_set_number n (marked_places marked o.pieces))
unfolding turned_orbit
Follows-place_sets n m k marked home turns pos each set count =
    let l = IsListView-place_sets n k home set in
    Follows-projection (place_set_view n k home) (IsPlaceSet n k) (IsOrbit n m)
    (record { one_to_one = l.one_to_one; turned = λ xs r h turn. l.turned xs r h turn.pieces; goal = l.goal })
    (turned_orbit m) (IsOrbit n m) (λ o. marked_places marked o.pieces) (orbit_laws n m pos).kept
    (λ o h. IsPlaceSet-marked n k marked o.pieces h.pieces count)
    (λ o r h turn. marked-turned marked o.pieces r (places_in n r.pieces o.pieces turn.pieces h.pieces.size)) turns each
