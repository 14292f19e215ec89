-- Views of states by numbers go along with turns, where the number of a turned state is that which the turn makes of
-- the list that is kept for the number. No puzzle stands here.
use Rattle.std.proofs.Common.{◌≡◌, ℕ, ◌<◌, Bool, cond, List, map, length, Option, Some, None, refl, sym, ap, ◌∙◌, subst, arith}
use Rattle.std.specs.Prelude.{All, nat_lt, slice_get, ◌↔◌}
use Rattle.std.specs.Option.{option_map}
use Rattle.std.proofs.lemmas.Bool.{eq-eqb, eqb-true, ltb-false}
use Rattle.std.proofs.lemmas.Option.{slice_get-map, slice_get_past}
use Rattle.scr_combinatorics.proofs.PlayLaws.{map-some}
use Rattle.scr_orbit.specs.Orbits.{Orbit}
use Rattle.scr_orbit.proofs.PowerLaws.{All-got}
use Rattle.scr_positions.specs.Coordinates.{Coordinate}
use Rattle.scr_positions.specs.SearchSpaces.{positions, Follows}
use Rattle.scr_coord.specs.Projections.{ListView, projection}
use Rattle.scr_coord.proofs.ListViews.{IsListView}

-- What turns make of states, which tell turns, too: the turn of a number is at that place of a list, each is valid, and
-- states stay so when they are turned by such.
pub record TurnsStates {S : Type 0} (turned : S → S → S) (turns : List S) (after : S → ℕ → Option S) (IsValid : S → Type 0) : Type 0 where
  pub each : All IsValid turns
  pub after_is : (s : S) (t : ℕ) → after s t ≡ option_map (turned s) (slice_get turns t)
  pub keeps : (s r : S) → IsValid s → IsValid r → IsValid (turned s r)

pub kept_by : {S : Type 0} {turned : S → S → S} {turns : List S} {after : S → ℕ → Option S} {IsValid : S → Type 0} → TurnsStates turned turns after IsValid
    → (s r : S) (t : ℕ) → IsValid s → after s t ≡ Some r → IsValid r
kept_by {turned = turned} {turns = turns} {IsValid = IsValid} l s r t h e =
    let found = map-some (turned s) (slice_get turns t) r (sym (l.after_is s t) ∙ e) in
    subst IsValid found.2 (l.keeps s found.0 h (All-got IsValid turns t found.0 l.each found.1))

module _ {S : Type 0} {turned : S → S → S} {turns : List S} {after : S → ℕ → Option S} {IsValid : S → Type 0} (l : TurnsStates turned turns after IsValid)
    (v : ListView) (part : S → Orbit) (view : S → ℕ) (IsGoal : S → Type 0)
    (below : (s : S) → IsValid s → view s < v.count)
    (steps : (s r : S) → IsValid s → IsValid r → v.number_of (v.turned (v.list_at (view s)) (part r)) ≡ view (turned s r))
    (goals : (s : S) → IsValid s → IsGoal s ↔ (view s ≡ v.number_of v.goal)) where
  step_by : (s : S) (o : Option S) → IsValid s → ((r : S) → o ≡ Some r → IsValid r)
      → option_map (λ r. v.number_of (v.turned (v.list_at (view s)) r)) (option_map part o) ≡ option_map view (option_map (turned s) o)
  step_by s o h0 h1 = grind arith

  -- there is none past the last
  guarded : (f : Orbit → ℕ) (t : ℕ) (b : Bool) → nat_lt t (length (map part turns)) ≡ b
      → cond b (option_map f (slice_get (map part turns) t)) None ≡ option_map f (option_map part (slice_get turns t))
  guarded f t b h0 = grind (arith, slice_get-map, slice_get_past, ltb-false)

  pub Follows-viewed : Follows (record { IsValid = IsValid; after = after; IsGoal = IsGoal }) (positions (projection v (map part turns))) view
  Follows-viewed = record {
    kept = kept_by l;
    valid = below;
    turned = λ s t h.
        guarded (λ r. v.number_of (v.turned (v.list_at (view s)) r)) t (nat_lt t (length (map part turns))) refl
        ∙ step_by s (slice_get turns t) h (λ r e. All-got IsValid turns t r l.each e)
        ∙ ap (option_map view) (sym (l.after_is s t));
    goals = λ s h. (
      λ g. eq-eqb (view s) (v.number_of v.goal) ((goals s h).0 g),
      λ e. (goals s h).1 (eqb-true (view s) (v.number_of v.goal) e),
    );
  }

-- So it is with the number of a list of the state, where the lists are numbered one to one and go along with turns.
module _ {S : Type 0} {turned : S → S → S} {turns : List S} {after : S → ℕ → Option S} {IsValid : S → Type 0} (l : TurnsStates turned turns after IsValid)
    (v : ListView) {IsList : List ℕ → Type 0} {IsMove : Orbit → Type 0}
    (lists : IsListView v IsList IsMove) (part : S → Orbit) (list_of : S → List ℕ) (are : (s : S) → IsValid s → IsList (list_of s))
    (goes : (s r : S) → IsValid s → IsValid r → list_of (turned s r) ≡ v.turned (list_of s) (part r)) where
  pub Follows-listed : Follows (record { IsValid = IsValid; after = after; IsGoal = λ s. list_of s ≡ v.goal })
      (positions (projection v (map part turns))) (λ s. v.number_of (list_of s))
  Follows-listed =
      let one = lists.one_to_one in
      Follows-viewed l v part (λ s. v.number_of (list_of s)) (λ s. list_of s ≡ v.goal)
      (λ s h. one.below (list_of s) (are s h))
      (λ s r h t. ap (λ xs. v.number_of (v.turned xs (part r))) (one.state_again (list_of s) (are s h)) ∙ ap v.number_of (sym (goes s r h t)))
      (λ s h. (
        λ e. ap v.number_of e,
        λ e. sym (one.state_again (list_of s) (are s h)) ∙ ap v.list_at e ∙ one.state_again v.goal lists.goal,
      ))

-- What goes along with turns goes along with the same goals, however they are told,
pub Follows-goals : {S : Type 0} (IsValid IsGoal IsOther : S → Type 0) (after : S → ℕ → Option S) (c : Coordinate) (view : S → ℕ)
    → ((s : S) → IsValid s → IsOther s ↔ IsGoal s)
    → Follows (record { IsValid = IsValid; after = after; IsGoal = IsGoal }) (positions c) view
    → Follows (record { IsValid = IsValid; after = after; IsGoal = IsOther }) (positions c) view
Follows-goals IsValid IsGoal IsOther after c view same f = record {
  kept = f.kept;
  valid = f.valid;
  turned = f.turned;
  goals = λ s h. (λ g. (f.goals s h).0 ((same s h).0 g), λ e. (same s h).1 ((f.goals s h).1 e));
}

-- and from fewer states, which turns lead to such states.
pub Follows-fewer : {S : Type 0} (IsValid IsFewer IsGoal : S → Type 0) (after : S → ℕ → Option S) (c : Coordinate)
    (view : S → ℕ)
    → ((s : S) → IsFewer s → IsValid s) → ((s r : S) (t : ℕ) → IsFewer s → after s t ≡ Some r → IsFewer r)
    → Follows (record { IsValid = IsValid; after = after; IsGoal = IsGoal }) (positions c) view
    → Follows (record { IsValid = IsFewer; after = after; IsGoal = IsGoal }) (positions c) view
Follows-fewer IsValid IsFewer IsGoal after c view are kept f = record {
  kept = kept;
  valid = λ s h. f.valid s (are s h);
  turned = λ s t h. f.turned s t (are s h);
  goals = λ s h. f.goals s (are s h);
}
