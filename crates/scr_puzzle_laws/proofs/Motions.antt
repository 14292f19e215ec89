-- Where a turn takes the piece of each unit.
use Rattle.std.proofs.Common.{◌≡◌, ℕ, ◌+◌, ◌%◌, ◌<◌, ◌≤◌, slice_index, Some, ap, ◌∙◌, arith}
use Rattle.std.proofs.lemmas.Bool.Decides.{nat_tests}
use Rattle.std.specs.Prelude.{ℤ}
use Rattle.scr_combinatorics.proofs.Picks.{pick-at}
use Rattle.scr_notation.specs.declared.turn.Turn.TheVariants.{Layers}
use Rattle.scr_sq1.specs.Units.{Sq1State, clockwise, place_before, turn_places, turned, twisted, sq1_after}
use Rattle.scr_sq1.proofs.Places.{length-places_by, places_by-at, place_before-top, place_before-bottom, place_before_twist, twist_places-at, IsPermutation-twist_places}
use Rattle.scr_sq1.proofs.Clockwise.{clockwise-lt}
use Rattle.scr_sq1.proofs.Lawful.{sq1_after-layers}

-- what comes to a unit
turned-at : (s : Sq1State) (x y : ℤ) (k : ℕ) → k < 24
    → slice_index (turned s x y).units k ≡ slice_index s.units (place_before (clockwise x) (clockwise y) k)
unfolding turned turn_places
turned-at s x y k lt =
    let place : ℕ → ℕ = place_before (clockwise x) (clockwise y) in
    pick-at s.units (turn_places (clockwise x) (clockwise y)) k (omega (arith, length-places_by place))
    ∙ ap (λ i. slice_index s.units i) (places_by-at place k lt)

twisted-at : (s : Sq1State) (k : ℕ) → k < 24
    → slice_index (twisted s).units k ≡ slice_index s.units (place_before_twist k)
unfolding twisted
twisted-at s k lt = grind (arith, nat_tests, pick-at, IsPermutation-twist_places, twist_places-at)

pub top_moved : (s r : Sq1State) (x y : ℤ) (k : ℕ) → sq1_after s (Layers x y) ≡ Some r → k < 12
    → slice_index r.units ((k + clockwise x) % 12) ≡ slice_index s.units k
top_moved s r x y k e lt = grind (arith, nat_tests, place_before-top, clockwise-lt, sq1_after-layers, turned-at)

pub bottom_moved : (s r : Sq1State) (x y : ℤ) (k : ℕ) → sq1_after s (Layers x y) ≡ Some r → k < 12
    → slice_index r.units (12 + (k + clockwise y) % 12) ≡ slice_index s.units (12 + k)
bottom_moved s r x y k e lt = grind (arith, nat_tests, place_before-bottom, clockwise-lt, sq1_after-layers, turned-at)

pub equator_kept : (s r : Sq1State) (x y : ℤ) → sq1_after s (Layers x y) ≡ Some r → r.equator ≡ s.equator
unfolding turned
equator_kept s r x y e = ap (λ q. q.equator) (sq1_after-layers s r x y e).is

pub moved_to_bottom : (s : Sq1State) (k : ℕ) → k < 6 → slice_index (twisted s).units (12 + k) ≡ slice_index s.units k
moved_to_bottom s k lt = twisted-at s (12 + k) (omega arith) ∙ ap (λ i. slice_index s.units i) (grind (arith))

pub moved_to_top : (s : Sq1State) (k : ℕ) → k < 6 → slice_index (twisted s).units k ≡ slice_index s.units (12 + k)
moved_to_top s k lt = twisted-at s k (omega arith) ∙ ap (λ i. slice_index s.units i) (grind (arith))

pub left_kept : (s : Sq1State) (k : ℕ) → 6 ≤ k → k < 12
    → (slice_index (twisted s).units k ≡ slice_index s.units k) × (slice_index (twisted s).units (12 + k) ≡ slice_index s.units (12 + k))
left_kept s k le lt = grind (arith, nat_tests, twisted-at)
