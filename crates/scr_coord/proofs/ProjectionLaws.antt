-- Projections: what the steps of their code say, and that they follow the turns of orbits.
use Rattle.std.proofs.Common.{◌≡◌, ℕ, ◌<◌, Bool, cond, List, map, length, get_or, Option, Some, None, refl, sym, ap, ◌∙◌, subst, arith}
use Rattle.std.specs.Prelude.{All, nat_lt, slice_get}
use Rattle.std.specs.Option.{option_map}
use Rattle.std.proofs.lemmas.Bool.{eq-eqb, eqb-true, ltb-false}
use Rattle.std.proofs.lemmas.Option.{slice_get_past}
use Rattle.scr_combinatorics.specs.Lists.{numbers_from}
use Rattle.scr_combinatorics.specs.Twists.{IsTwists, twists_number}
use Rattle.std.proofs.lemmas.List.{length-map}
use Rattle.scr_combinatorics.specs.Permutations.{IsPermutation, permutation_number}
use Rattle.scr_combinatorics.proofs.PlayLaws.{map-some}
use Rattle.scr_orbit.specs.Orbits.{Orbit, IsOrbit, IsZeroSumOrbit, turned_orbit, zeros}
use Rattle.scr_orbit.specs.PlaceTurns.{made_by}
use Rattle.scr_orbit.specs.declared.placed.PlaceTurn.{PlaceTurn}
use Rattle.scr_orbit.proofs.OrbitLaws.{orbit_laws, zero_sum_laws}
use Rattle.scr_orbit.proofs.Places.{turn-at}
use Rattle.scr_orbit.proofs.PowerLaws.{All-got}
use Rattle.scr_coord.specs.Projections.{ListView, projection, twists_view, pieces_view, orbit_space, AreTurns}
use Rattle.scr_positions.specs.SearchSpaces.{positions, Follows}
use Rattle.scr_coord.proofs.ListViews.{IsListView, IsListView-twists, IsListView-pieces}

-- ---- turns in arrays

-- A turn that is read is one of those that are asked for.
pub turn_read : {n : ℕ} (IsTurn : PlaceTurn n → Type 0) (turns : List (PlaceTurn n)) (t : ℕ) (turn : PlaceTurn n)
    → AreTurns IsTurn turns → t < length (map made_by turns) → IsTurn (get_or turns t turn)
turn_read IsTurn turns t turn valid lt = valid.each t turn (omega (arith, length-map turns made_by))

-- The number of the turned list is where the turn leads.
pub after_read : {n : ℕ} (v : ListView) (turns : List (PlaceTurn n)) (p t q : ℕ) (turn : PlaceTurn n) (seen : List ℕ)
    → t < length (map made_by turns) → seen ≡ v.list_at p
    → q ≡ v.number_of (v.turned seen (made_by (get_or turns t turn)))
    → Some q ≡ (projection v (map made_by turns)).after p t
after_read v turns p t q turn seen lt e number = grind (arith, turn-at, length-map)

-- Turns that keep the sum of the digits move the pieces.
pub AreTurns-places : {n : ℕ} (base : ℕ) (turns : List (PlaceTurn n))
    → AreTurns (λ turn. IsZeroSumOrbit n base (made_by turn)) turns
    → AreTurns (λ turn. IsPermutation n turn.places) turns
AreTurns-places base turns h = record { some = h.some; few = h.few; each = λ k d lt. (h.each k d lt).pieces }

-- ---- projections go along with turns

module _ {S : Type 0} (v : ListView) (IsList : List ℕ → Type 0) (IsTurn : Orbit → Type 0) (l : IsListView v IsList IsTurn)
    (turned : S → Orbit → S) (IsValid : S → Type 0) (list_of : S → List ℕ)
    (keeps : (s : S) (r : Orbit) → IsValid s → IsTurn r → IsValid (turned s r))
    (seen : (s : S) → IsValid s → IsList (list_of s))
    (moves : (s : S) (r : Orbit) → IsValid s → IsTurn r → list_of (turned s r) ≡ v.turned (list_of s) r) where
  -- where a turn leads, if there is one
  step_by : (s : S) (o : Option Orbit) → IsValid s → ((r : Orbit) → o ≡ Some r → IsTurn r)
      → option_map (λ r. v.number_of (v.turned (v.list_at (v.number_of (list_of s))) r)) o ≡ option_map (λ s. v.number_of (list_of s)) (option_map (turned s) o)
  step_by s o h0 h1 = grind arith

  -- there is none past the last
  guarded : (f : Orbit → ℕ) (turns : List Orbit) (t : ℕ) (b : Bool) → nat_lt t (length turns) ≡ b
      → cond b (option_map f (slice_get turns t)) None ≡ option_map f (slice_get turns t)
  guarded f turns t b h0 = grind (arith, slice_get_past, ltb-false)

  pub Follows-projection : (turns : List Orbit) → All IsTurn turns
      → Follows (record { IsValid = IsValid; after = λ s t. option_map (turned s) (slice_get turns t); IsGoal = λ s. list_of s ≡ v.goal })
      (positions (projection v turns)) (λ s. v.number_of (list_of s))
  Follows-projection turns each = record {
    kept = λ s r t h e.
        let found = map-some (turned s) (slice_get turns t) r e in
        subst IsValid found.2 (keeps s found.0 h (All-got IsTurn turns t found.0 each found.1));
    valid = λ s h. l.one_to_one.below (list_of s) (seen s h);
    turned = λ s t h.
        guarded (λ r. v.number_of (v.turned (v.list_at (v.number_of (list_of s))) r)) turns t (nat_lt t (length turns)) refl
        ∙ step_by s (slice_get turns t) h (λ r e. All-got IsTurn turns t r each e);
    goals = λ s h. (
      λ e. eq-eqb (v.number_of (list_of s)) (v.number_of v.goal) (ap v.number_of e),
      λ e.
          sym (l.one_to_one.state_again (list_of s) (seen s h))
          ∙ ap v.list_at (eqb-true (v.number_of (list_of s)) (v.number_of v.goal) e) ∙ l.one_to_one.state_again v.goal l.goal,
    );
  }

pub Follows-twists : (n base : ℕ) (turns : List Orbit) → 0 < n → 0 < base → All (IsZeroSumOrbit n base) turns
    → Follows (orbit_space base turns (IsZeroSumOrbit n base) (λ o. o.digits ≡ zeros n)) (positions (projection (twists_view n base) turns))
    (λ o. twists_number base o.digits)
unfolding turned_orbit
Follows-twists n base turns some pos each =
    Follows-projection (twists_view n base) (IsTwists n base) (IsZeroSumOrbit n base) (IsListView-twists n base some pos) (turned_orbit base)
    (IsZeroSumOrbit n base) (λ o. o.digits) (zero_sum_laws n base pos).kept (λ o h. h.digits) (λ o r h k. refl) turns each

pub Follows-pieces : (n m : ℕ) (turns : List Orbit) → 0 < m → All (IsOrbit n m) turns
    → Follows (orbit_space m turns (IsOrbit n m) (λ o. o.pieces ≡ numbers_from 0 n)) (positions (projection (pieces_view n) turns))
    (λ o. permutation_number o.pieces)
unfolding turned_orbit
Follows-pieces n m turns pos each =
    Follows-projection (pieces_view n) (IsPermutation n) (IsOrbit n m)
    (record { one_to_one = (IsListView-pieces n).one_to_one; turned = λ xs r h k. (IsListView-pieces n).turned xs r h k.pieces; goal = (IsListView-pieces n).goal })
    (turned_orbit m) (IsOrbit n m) (λ o. o.pieces) (orbit_laws n m pos).kept (λ o h. h.pieces) (λ o r h k. refl) turns each
