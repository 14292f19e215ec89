-- The puzzle turned over turns as before, with the layers' amounts exchanged.
use Rattle.std.proofs.Common.{◌≡◌, ℕ, ◌+◌, ◌-◌, ◌<◌, Bool, true, false, cond, List, Option, Some, None, refl, sym, ap, ◌∙◌, subst, arith}
use Rattle.std.specs.Prelude.{ℤ, ◌++◌, ◌&&◌, not, nat_lt, if◌then◌else◌, All, option_map}
use Rattle.std.proofs.lemmas.Bool.Decides.{nat_tests}
use Rattle.scr_combinatorics.specs.Lists.{numbers_from, pick}
use Rattle.scr_combinatorics.specs.Permutations.{IsPermutation}
use Rattle.scr_combinatorics.proofs.Picks.{pick-pick}
use Rattle.scr_combinatorics.proofs.PermutationLaws.{IsPermutation-from_test, All-permutation}
use Rattle.scr_notation.specs.declared.turn.Turn.TheVariants.{Layers, Twist}
use Rattle.scr_notation.specs.Layers.{is_layer_turn}
use Rattle.scr_sq1.specs.Units.{Sq1State, is_open, clockwise, place_before, turn_places, twist_places, turned, after_layers, twisted, sq1_after}
use Rattle.scr_puzzle_laws.specs.Sq1Known.{turned_over_sq1}
use Rattle.scr_sq1.proofs.Places.{places_by, same_places, pick-places_by, place_before-lt, IsTurnTable-turn, IsPermutation-twist_places}
use Rattle.scr_sq1.proofs.Clockwise.{clockwise-lt}
use Rattle.scr_sq1.proofs.InHalves.{is_open-layers}

and_swap : (a b : Bool) → (a && b) ≡ (b && a)
and_swap true true = refl
and_swap true false = refl
and_swap false true = refl
and_swap false false = refl

-- the unit below or above
over : ℕ → ℕ
over k = if nat_lt k 12 then k + 12 else k - 12

over_places : List ℕ
over_places = numbers_from 12 12 ++ numbers_from 0 12

over_places-by : over_places ≡ places_by over
unfolding over over_places
over_places-by = refl

IsPermutation-over : IsPermutation 24 over_places
unfolding over_places
IsPermutation-over = IsPermutation-from_test 24 over_places refl

over-lt : (k : ℕ) → k < 24 → over k < 24
unfolding over
over-lt k lt = grind (arith, nat_tests)

over-place : (n m k : ℕ) → n < 12 → m < 12 → k < 24 → over (place_before m n k) ≡ place_before n m (over k)
unfolding over
over-place n m k ln lm lt = grind (arith, nat_tests)

-- a table of places before and behind turning over
over_turn : (n m : ℕ) → n < 12 → m < 12 → pick over_places (turn_places m n) ≡ pick (turn_places n m) over_places
unfolding turn_places
over_turn n m ln lm =
    ap (λ o. pick o (turn_places m n)) over_places-by
    ∙ pick-places_by over (place_before m n) (λ k lt. place_before-lt m n k)
    ∙ same_places (λ k. over (place_before m n k)) (λ k. place_before n m (over k)) (λ k lt. over-place n m k ln lm lt)
    ∙ sym (pick-places_by (place_before n m) over over-lt)
    ∙ ap (pick (turn_places n m)) (sym over_places-by)

over_twist : pick over_places twist_places ≡ pick twist_places over_places
unfolding over_places twist_places
over_twist = refl

-- two tables in either order
both_ways : (units places more : List ℕ) → IsPermutation 24 places → IsPermutation 24 more
    → pick over_places more ≡ pick places over_places
    → pick (pick units over_places) more ≡ pick (pick units places) over_places
both_ways units places more p q same =
    pick-pick units over_places more (subst (λ n. All (λ k. k < n) more) (sym IsPermutation-over.size) (All-permutation 24 more q))
    ∙ ap (pick units) same
    ∙ sym (pick-pick units places over_places (subst (λ n. All (λ k. k < n) over_places) (sym p.size) (All-permutation 24 over_places IsPermutation-over)))

same_state : (us vs : List ℕ) (b : Bool) → us ≡ vs
    → (let s : Sq1State = record { units = us; equator = b } in let r : Sq1State = record { units = vs; equator = b } in s ≡ r)
same_state us vs b e = ap (λ zs. let s : Sq1State = record { units = zs; equator = b } in s) e

turned-over : (s : Sq1State) (x y : ℤ) → turned (turned_over_sq1 s) y x ≡ turned_over_sq1 (turned s x y)
unfolding turned over_places
turned-over s x y =
    let n : ℕ = clockwise x in
    let m : ℕ = clockwise y in
    same_state _ _ s.equator
    (both_ways s.units (turn_places n m) (turn_places m n) (IsTurnTable-turn n m (clockwise-lt x) (clockwise-lt y)).permutation
    (IsTurnTable-turn m n (clockwise-lt y) (clockwise-lt x)).permutation (over_turn n m (clockwise-lt x) (clockwise-lt y)))

-- the same places are across the cut
is_open-over : (units : List ℕ) → is_open (pick units over_places) ≡ is_open units
unfolding over_places
is_open-over units = grind (arith, nat_tests, is_open-layers, and_swap)

-- amounts of a turn are so in either order
is_layer_turn-over : (x y : ℤ) → is_layer_turn (Layers y x) ≡ is_layer_turn (Layers x y)
is_layer_turn-over x y = grind (arith, nat_tests, and_swap)

map_if : {A B : Type 0} (f : A → B) (b : Bool) (o : Option A)
    → (let p : Option B = cond b (option_map f o) None in let q : Option A = cond b o None in p ≡ option_map f q)
map_if f true o = refl
map_if f false o = refl

after_layers-over : (s : Sq1State) (x y : ℤ)
    → after_layers (turned_over_sq1 s) y x ≡ option_map turned_over_sq1 (after_layers s x y)
unfolding after_layers over_places
after_layers-over s x y =
    let q : Sq1State = turned s x y in
    ap (λ r. let o : Option Sq1State = cond (is_open r.units) (Some r) None in o) (turned-over s x y)
    ∙ ap (λ b. let o : Option Sq1State = cond b (Some (turned_over_sq1 q)) None in o) (is_open-over q.units)
    ∙ map_if turned_over_sq1 (is_open q.units) (Some q)

pub layers_over : (s : Sq1State) (x y : ℤ)
    → sq1_after (turned_over_sq1 s) (Layers y x) ≡ option_map turned_over_sq1 (sq1_after s (Layers x y))
unfolding sq1_after
layers_over s x y = grind (arith, nat_tests, is_layer_turn-over, after_layers-over, map_if)

pub twist_over : (s : Sq1State) → sq1_after (turned_over_sq1 s) Twist ≡ option_map turned_over_sq1 (sq1_after s Twist)
unfolding sq1_after twisted over_places
twist_over s =
    ap Some (same_state _ _ (not s.equator) (both_ways s.units twist_places twist_places IsPermutation-twist_places IsPermutation-twist_places over_twist))
