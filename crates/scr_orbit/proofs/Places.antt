-- Steps of the loops over places, and orbits that are turned by them.
use Rattle.std.proofs.Common.{Some, map, ◌≡◌, ℕ, zero, suc, ◌+◌, ◌-◌, ◌%◌, ◌<◌, ◌≤◌, List, [], ◌∷◌, length, get_or, take, sym, ◌∙◌, subst, arith, inl, inr}
use Rattle.std.proofs.lemmas.List.{ext_get_or, get_or_default}
use Rattle.std.proofs.lemmas.Bool.{cases_eq}
use Rattle.std.proofs.Math.Nat.{mod-eq_of_lt, add-mod_right}
use Rattle.std.specs.List.{All, Contains, slice_get}
use Rattle.std.proofs.lemmas.Option.{slice_get-map, slice_get-get_or}
use Rattle.scr_orbit.specs.declared.placed.PlaceTurn.{PlaceTurn}
use Rattle.scr_orbit.specs.PlaceTurns.{made_by}
use Rattle.scr_combinatorics.specs.Lists.{occurrences, total, pick}
use Rattle.scr_combinatorics.proofs.Counts.{occurrences-at, one_if-other}
use Rattle.scr_combinatorics.proofs.Picks.{length-pick, pick-at, All-pick}
use Rattle.scr_orbit.specs.Orbits.{Orbit, turned_orbit}
use Rattle.scr_orbit.proofs.DigitLaws.{added_digits_by_places}
use Rattle.scr_orbit.proofs.OrbitLaws.{same_orbit}
use Rattle.scr_orbit.proofs.Parts.{IsMadeAt}

-- a list that has at each place what is picked there
pub pick_by_places : (xs ks ys : List ℕ) → length ys ≡ length ks
    → ((k : ℕ) → k < length ks → get_or ys k 0 ≡ get_or xs (get_or ks k 0) 0) → ys ≡ pick xs ks
pick_by_places xs ks ys e h =
    ext_get_or 0 ys (pick xs ks) (e ∙ sym (length-pick xs ks)) (λ k lt. h k (omega arith) ∙ sym (pick-at xs ks k (omega arith)))

-- a sum of two digits is taken modulo m by at most one subtraction
pub sum-below : (m s : ℕ) → s < m → s ≡ s % m
sum-below m s lt = sym (mod-eq_of_lt lt)

pub sum-above : (m s : ℕ) → m ≤ s → s < m + m → s - m ≡ s % m
sum-above m s le lt = grind (arith, mod-eq_of_lt, add-mod_right)

-- what a list contains occurs in it
pub occurrences-contained : (xs : List ℕ) (x : ℕ) → Contains xs x → 0 < occurrences x xs
occurrences-contained xs x h =
    let k = h.0 in
    let here : get_or xs k 0 ≡ x = get_or_default xs k 0 x h.1 ∙ h.2 in
    subst (λ v. 0 < occurrences v xs) here (occurrences-at xs k h.1)

pub contained-occurs : (xs : List ℕ) (x : ℕ) → 0 < occurrences x xs → Contains xs x
contained-occurs [] x h = absurd (omega arith)
contained-occurs (y ∷ xs) x h =
    elim (cases_eq y x) [
      | inl e ↦ (0, omega arith, e)
      | inr other ↦
          let later = contained-occurs xs x (omega (arith, one_if-other y x other)) in
          (suc later.0, omega (arith, later.1), later.2)
    ]

-- one more number of a sum
pub total-take_suc : (xs : List ℕ) (k : ℕ) → k < length xs → total (take (suc k) xs) ≡ total (take k xs) + get_or xs k 0
total-take_suc [] k lt = absurd (omega arith)
total-take_suc (x ∷ xs) zero lt = omega arith
total-take_suc (x ∷ xs) (suc k) lt = omega (arith, total-take_suc xs k (omega arith))

-- ---- orbits after turns

-- what a turn makes of an orbit, place by place
pub turned_by_places : (n m : ℕ) (o r : Orbit) (pieces digits : List ℕ) → length pieces ≡ n → length digits ≡ n
    → length r.pieces ≡ n → length r.digits ≡ n
    → ((k : ℕ) → k < n → get_or pieces k 0 ≡ get_or o.pieces (get_or r.pieces k 0) 0)
    → ((k : ℕ) → k < n → get_or digits k 0 ≡ (get_or o.digits (get_or r.pieces k 0) 0 + get_or r.digits k 0) % m)
    → record { pieces = pieces; digits = digits } ≡ turned_orbit m o r
unfolding turned_orbit
turned_by_places n m o r pieces digits long_pieces long_digits long_places long_added each_piece each_digit =
    grind (arith, length-pick, same_orbit, pick_by_places, added_digits_by_places, pick-at)

-- what is picked of digits below m is below m
pub picked_below : (m : ℕ) (ds places picked : List ℕ) → All (λ d. d < m) ds → All (λ k. k < length ds) places
    → picked ≡ pick ds places → All (λ d. d < m) picked
picked_below m ds places picked low below e = subst (All (λ d. d < m)) (sym e) (All-pick (λ d. d < m) ds places low below)

-- a turn read from a table of turns in arrays
pub turn-at : {n : ℕ} (ts : List (PlaceTurn n)) (all : List Orbit) (k : ℕ) (d : PlaceTurn n)
    → map made_by ts ≡ all → k < length ts → slice_get all k ≡ Some (made_by (get_or ts k d))
turn-at ts all k d e lt = grind (arith, slice_get-map, slice_get-get_or)

-- and the orbit after it
pub turned-at : {n : ℕ} {all : List Orbit} {o from to : Orbit} (m : ℕ) (ts : List (PlaceTurn n)) (k : ℕ) (d : PlaceTurn n)
    → from ≡ o → map made_by ts ≡ all → k < length ts
    → to ≡ turned_orbit m from (made_by (get_or ts k d)) → IsMadeAt all k (turned_orbit m o) to
turned-at {all = all} {o = o} m ts k d same e lt made = grind (arith, turn-at)
