-- A turn of both layers is one of the top, and then one of the bottom: whether a corner comes across the cut in a layer
-- is told by how far that layer is turned.
use Rattle.std.proofs.Common.{◌≡◌, ℕ, zero, suc, ◌<◌, Bool, true, false, IsTrue, cond, List, get_or, slice_index, ◌⊎◌, ◌≤◌, inl, inr, Option, Some, None, refl, sym, ap, ◌∙◌, arith}
use Rattle.std.proofs.lemmas.Bool.{false≢true}
use Rattle.std.proofs.lemmas.Bool.Decides.{nat_tests}
use Rattle.std.specs.Prelude.{◌&&◌, not, ℤ, pos, option_and_then}
use Rattle.scr_combinatorics.specs.Lists.{pick}
use Rattle.scr_combinatorics.proofs.Picks.{pick-at}
use Rattle.scr_sq1.specs.declared.turning.TheConstants.{BEFORE_CUT, BEHIND_CUT}
use Rattle.scr_sq1.specs.Units.{Sq1State, IsSq1, are_of_one_corner, is_open, clockwise, place_before, turn_places, turned, after_layers}
use Rattle.scr_sq1.proofs.Places.{length-places_by, places_by-at}
use Rattle.scr_sq1.proofs.Lawful.{turned-apart}
use Rattle.scr_sq1.proofs.InHalves.{IsOpen, IsOpen-test, is_open-from, is_open-layers, is_open-valid}

-- ---- what comes across the cut

unit-turned : (units : List ℕ) (n m k : ℕ) → k < 24
    → slice_index (pick units (turn_places n m)) k ≡ slice_index units (place_before n m k)
unfolding turn_places
unit-turned units n m k lt =
    pick-at units (turn_places n m) k (omega (arith, lt, length-places_by (place_before n m)))
    ∙ ap (slice_index units) (places_by-at (place_before n m) k lt)

pub of_one_corner-turned : (units : List ℕ) (n m j k : ℕ) → j < 24 → k < 24
    → are_of_one_corner (pick units (turn_places n m)) j k ≡ are_of_one_corner units (place_before n m j) (place_before n m k)
of_one_corner-turned units n m j k lj lk = grind (arith, nat_tests, unit-turned)

-- two units that are not of one corner
pub crosses-not : (units : List ℕ) (j k : ℕ) → (8 ≤ slice_index units j) ⊎ (slice_index units k ≡ slice_index units j → ⊥)
    → are_of_one_corner units j k ≡ false
crosses-not units j k (inl edge) = grind (arith, nat_tests)
crosses-not units j k (inr other) = grind (arith, nat_tests)

abbrev pub crosses : List ℕ → ℕ → Bool
crosses units i = are_of_one_corner units (get_or BEFORE_CUT i 0) (get_or BEHIND_CUT i 0)

pub is_open-cut : (units : List ℕ) → ((i : ℕ) → i < 4 → crosses units i ≡ false) → is_open units ≡ true
is_open-cut units none = is_open-from units (record {
  top_back = λ t. false≢true (sym (none 0 (omega arith)) ∙ t);
  top_front = λ t. false≢true (sym (none 1 (omega arith)) ∙ t);
  bottom_front = λ t. false≢true (sym (none 2 (omega arith)) ∙ t);
  bottom_back = λ t. false≢true (sym (none 3 (omega arith)) ∙ t);
})

pub is_open-crossed : (units : List ℕ) (i : ℕ) → i < 4 → crosses units i ≡ true → is_open units ≡ false
is_open-crossed units i lt one = untrue (is_open units) (λ t. apart i lt (IsOpen-test units t) one)
  where
    untrue : (b : Bool) → (IsTrue b → ⊥) → b ≡ false
    untrue true h = absurd (h refl)
    untrue false h = refl

    apart : (i : ℕ) → i < 4 → IsOpen units → IsTrue (crosses units i) → ⊥
    apart zero lt o = o.top_back
    apart (suc zero) lt o = o.top_front
    apart (suc (suc zero)) lt o = o.bottom_front
    apart (suc (suc (suc zero))) lt o = o.bottom_back
    apart (suc (suc (suc (suc i)))) lt o = absurd (omega arith)

-- one place of the cut, as it is tested before the units are moved
pub crosses-turned : (units : List ℕ) (n m i : ℕ) → i < 4
    → crosses (pick units (turn_places n m)) i
    ≡ are_of_one_corner units (place_before n m (get_or BEFORE_CUT i 0)) (place_before n m (get_or BEHIND_CUT i 0))
crosses-turned units n m zero lt = of_one_corner-turned units n m 11 0 (omega arith) (omega arith)
crosses-turned units n m (suc zero) lt = of_one_corner-turned units n m 5 6 (omega arith) (omega arith)
crosses-turned units n m (suc (suc zero)) lt = of_one_corner-turned units n m 23 12 (omega arith) (omega arith)
crosses-turned units n m (suc (suc (suc zero))) lt = of_one_corner-turned units n m 17 18 (omega arith) (omega arith)
crosses-turned units n m (suc (suc (suc (suc i)))) lt = absurd (omega arith)

abbrev top_open : List ℕ → ℕ → Bool
top_open units n =
    not (are_of_one_corner units (place_before n 0 11) (place_before n 0 0))
    && not (are_of_one_corner units (place_before n 0 5) (place_before n 0 6))

abbrev bottom_open : List ℕ → ℕ → Bool
bottom_open units m =
    not (are_of_one_corner units (place_before 0 m 23) (place_before 0 m 12))
    && not (are_of_one_corner units (place_before 0 m 17) (place_before 0 m 18))

is_open-turned : (units : List ℕ) (n m : ℕ)
    → is_open (pick units (turn_places n m)) ≡ (top_open units n && bottom_open units m)
is_open-turned units n m = grind (arith, nat_tests, of_one_corner-turned, is_open-layers)

-- ---- turns

both_true : (a b : Bool) → (a && b) ≡ true → b ≡ true
both_true true b e = e
both_true false b e = absurd (cc)

bottom_open-here : (s : Sq1State) → IsSq1 s → bottom_open s.units 0 ≡ true
bottom_open-here s h = both_true (top_open s.units 0) (bottom_open s.units 0) (sym (is_open-layers s.units) ∙ is_open-valid s h)

-- a test of both layers, and one of the top before one of both
two_tests : {S : Type 0} (t b : Bool) (after : S → Option S) (r q : S) (first whole : Bool) → first ≡ (t && true)
    → whole ≡ (t && b) → after r ≡ (let o : Option S = cond whole (Some q) None in o)
    → (let o : Option S = cond whole (Some q) None in o) ≡ option_and_then after (cond first (Some r) None)
two_tests {S = S} true b after r q first whole e f g = sym g ∙ ap (λ x. option_and_then after (cond x (Some r) None)) (sym e)
two_tests {S = S} false b after r q first whole e f g =
    ap (λ x. let o : Option S = cond x (Some q) None in o) f ∙ ap (λ x. option_and_then after (cond x (Some r) None)) (sym e)

pub after_layers-apart : (s : Sq1State) (x y : ℤ) → IsSq1 s
    → after_layers s x y ≡ option_and_then (λ r. after_layers r (pos 0) y) (after_layers s x (pos 0))
unfolding after_layers turned
after_layers-apart s x y h =
    let t : Bool = top_open s.units (clockwise x) in
    let b : Bool = bottom_open s.units (clockwise y) in
    two_tests t b (λ r. after_layers r (pos 0) y) (turned s x (pos 0)) (turned s x y)
    (is_open (turned s x (pos 0)).units) (is_open (turned s x y).units)
    (is_open-turned s.units (clockwise x) 0 ∙ ap (λ c. t && c) (bottom_open-here s h))
    (is_open-turned s.units (clockwise x) (clockwise y))
    (ap (λ q. let o : Option Sq1State = cond (is_open q.units) (Some q) None in o) (turned-apart s x y))
