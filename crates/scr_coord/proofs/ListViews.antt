-- Lists of one kind are numbered one to one and kept by turns, so turns lead from positions to positions.
use Rattle.std.proofs.Common.{ℕ, ◌<◌, List, map, subst}
use Rattle.std.specs.Prelude.{All, slice_get}
use Rattle.std.proofs.lemmas.List.Elements.{All-map}
use Rattle.scr_combinatorics.specs.Lists.{numbers_from}
use Rattle.scr_combinatorics.specs.Numbering.{IsOneToOne}
use Rattle.scr_combinatorics.specs.Permutations.{IsPermutation}
use Rattle.scr_combinatorics.specs.PlaceSets.{IsPlaceSet}
use Rattle.scr_combinatorics.specs.Twists.{IsTwists}
use Rattle.scr_combinatorics.proofs.PermutationLaws.{IsPermutation-pick, IsPermutation-numbers_from}
use Rattle.scr_combinatorics.proofs.PermutationNumbers.{permutations_one_to_one}
use Rattle.scr_combinatorics.proofs.PlaceSets.{place_sets_one_to_one}
use Rattle.scr_combinatorics.proofs.Twists.{twists_one_to_one}
use Rattle.scr_combinatorics.proofs.PlayLaws.{map-some}
use Rattle.scr_orbit.specs.Orbits.{Orbit, IsZeroSumOrbit, turned_orbit}
use Rattle.scr_orbit.specs.PlaceTurns.{made_by}
use Rattle.scr_orbit.specs.declared.placed.PlaceTurn.{PlaceTurn}
use Rattle.scr_orbit.proofs.DigitLaws.{length-zeros, All-zeros, total-zeros}
use Rattle.scr_orbit.proofs.OrbitLaws.{zero_sum_laws}
use Rattle.scr_orbit.proofs.PowerLaws.{All-got}
use Rattle.scr_positions.specs.Coordinates.{StaysBelow}
use Rattle.scr_coord.specs.Projections.{ListView, projection, twists_view, pieces_view, place_set_view}
use Rattle.scr_coord.proofs.MarkedLaws.{IsPlaceSet-turned}

-- Valid lists of one kind are numbered one to one, turns keep them valid, and the goal is one.
pub record IsListView (v : ListView) (IsList : List ℕ → Type 0) (IsTurn : Orbit → Type 0) : Type 0 where
  pub one_to_one : IsOneToOne v.count v.list_at v.number_of IsList
  pub turned : (xs : List ℕ) (r : Orbit) → IsList xs → IsTurn r → IsList (v.turned xs r)
  pub goal : IsList v.goal

pub StaysBelow-projection : (v : ListView) (IsList : List ℕ → Type 0) (IsTurn : Orbit → Type 0) (turns : List Orbit)
    → IsListView v IsList IsTurn → All IsTurn turns → StaysBelow (projection v turns)
StaysBelow-projection v IsList IsTurn turns l each p t q at turn e =
    let found = map-some (λ r. v.number_of (v.turned (v.list_at p) r)) (slice_get turns t) q e in
    let made = l.turned (v.list_at p) found.0 (l.one_to_one.valid p at) (All-got IsTurn turns t found.0 each found.1) in
    subst (λ k. k < v.count) found.2 (l.one_to_one.below (v.turned (v.list_at p) found.0) made)

pub IsListView-twists : (n base : ℕ) → 0 < n → 0 < base
    → IsListView (twists_view n base) (IsTwists n base) (IsZeroSumOrbit n base)
unfolding turned_orbit
IsListView-twists n base some pos = record {
  one_to_one = twists_one_to_one n base some pos;
  turned = λ xs r h k.
      ((zero_sum_laws n base pos).kept (record { pieces = numbers_from 0 n; digits = xs }) r
      (record { pieces = IsPermutation-numbers_from n; digits = h }) k).digits;
  goal = record { size = length-zeros n; below = All-zeros base n pos; sum_fixed = total-zeros base n };
}

pub IsListView-pieces : (n : ℕ) → IsListView (pieces_view n) (IsPermutation n) (λ r. IsPermutation n r.pieces)
IsListView-pieces n = record {
  one_to_one = permutations_one_to_one n;
  turned = λ xs r h k. IsPermutation-pick n xs r.pieces h k;
  goal = IsPermutation-numbers_from n;
}

pub IsListView-place_sets : (n k : ℕ) (home : List ℕ) → IsPlaceSet n k home
    → IsListView (place_set_view n k home) (IsPlaceSet n k) (λ r. IsPermutation n r.pieces)
IsListView-place_sets n k home h = record {
  one_to_one = place_sets_one_to_one n k;
  turned = λ xs r is turn. IsPlaceSet-turned n k xs r is turn;
  goal = h;
}

-- for turns in arrays
of_arrays : {n : ℕ} (v : ListView) (IsList : List ℕ → Type 0) (IsTurn : Orbit → Type 0) (turns : List (PlaceTurn n))
    → IsListView v IsList IsTurn → All (λ turn. IsTurn (made_by turn)) turns
    → StaysBelow (projection v (map made_by turns))
of_arrays v IsList IsTurn turns l each =
    StaysBelow-projection v IsList IsTurn (map made_by turns) l (All-map IsTurn made_by turns each)

pub StaysBelow-twists : (n base : ℕ) (turns : List (PlaceTurn n)) → 0 < n → 0 < base
    → All (λ turn. IsZeroSumOrbit n base (made_by turn)) turns
    → StaysBelow (projection (twists_view n base) (map made_by turns))
StaysBelow-twists n base turns some pos each =
    of_arrays (twists_view n base) (IsTwists n base) (IsZeroSumOrbit n base) turns (IsListView-twists n base some pos) each

pub StaysBelow-pieces : (n : ℕ) (turns : List (PlaceTurn n)) → All (λ turn. IsPermutation n turn.places) turns
    → StaysBelow (projection (pieces_view n) (map made_by turns))
StaysBelow-pieces n turns each =
    of_arrays (pieces_view n) (IsPermutation n) (λ r. IsPermutation n r.pieces) turns (IsListView-pieces n) each

pub StaysBelow-place_sets : (n k : ℕ) (home : List ℕ) (turns : List (PlaceTurn n)) → IsPlaceSet n k home
    → All (λ turn. IsPermutation n turn.places) turns
    → StaysBelow (projection (place_set_view n k home) (map made_by turns))
StaysBelow-place_sets n k home turns h each =
    of_arrays (place_set_view n k home) (IsPlaceSet n k) (λ r. IsPermutation n r.pieces) turns (IsListView-place_sets n k home h) each
