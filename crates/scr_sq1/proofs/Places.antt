-- Where the pieces of each unit stood before a turn.
use Rattle.std.proofs.Common.{rules}
use Rattle.std.proofs.Common.{◌≡◌, ℕ, suc, ◌+◌, ◌-◌, ◌%◌, ◌<◌, ◌≤◌, Bool, true, IsTrue, List, map, length, slice_index, refl, sym, ap, ◌∙◌, arith, eqb-true, lt-ltb}
use Rattle.std.specs.Prelude.{◌&&◌, ◌==◌, nat_lt, if◌then◌else◌}
use Rattle.std.proofs.lemmas.Bool.Decides.{nat_tests}
use Rattle.std.proofs.lemmas.Bool.{and_parts, cond-true, cond-false, le-ltb, ltb-true}
use Rattle.std.proofs.lemmas.List.{length-map, get_or-map, ext_get_or}
use Rattle.scr_combinatorics.specs.Lists.{numbers_from, pick}
use Rattle.scr_combinatorics.specs.Permutations.{IsPermutation, is_permutation}
use Rattle.scr_combinatorics.proofs.Picks.{numbers_from-at, pick-at}
use Rattle.scr_combinatorics.proofs.PermutationLaws.{IsPermutation-from_test}
use Rattle.scr_notation.specs.Ranges.{all_below}
use Rattle.scr_notation.proofs.Below.{at_below}
use Rattle.scr_sq1.specs.Units.{place_before, turn_places, twist_places}

-- ---- places given by a function

abbrev pub places_by : (ℕ → ℕ) → List ℕ
places_by place = map place (numbers_from 0 24)

pub length-places_by : (place : ℕ → ℕ) → length (places_by place) ≡ 24
length-places_by place = length-map (numbers_from 0 24) place

pub places_by-at : (place : ℕ → ℕ) (k : ℕ) → k < 24 → slice_index (places_by place) k ≡ place k
places_by-at place k lt = get_or-map place (numbers_from 0 24) k 0 0 lt ∙ ap place (omega (arith, numbers_from-at 0 24 k lt))

pub same_places : (f g : ℕ → ℕ) → ((k : ℕ) → k < 24 → f k ≡ g k) → places_by f ≡ places_by g
same_places f g same = search (arith, rules, ext_get_or, places_by-at)

-- one after the other
pub pick-places_by : (f g : ℕ → ℕ) → ((k : ℕ) → k < 24 → g k < 24)
    → pick (places_by f) (places_by g) ≡ places_by (λ k. f (g k))
pick-places_by f g below = search (arith, rules, ext_get_or, pick-at, places_by-at)

-- ---- turns

pub place_before-top : (n m k : ℕ) → k < 12 → place_before n m k ≡ (k + (12 - n)) % 12
place_before-top n m k lt = cond-true (nat_lt k 12) _ _ (lt-ltb k 12 lt)

pub place_before-bottom : (n m k : ℕ) → 12 ≤ k → place_before n m k ≡ 12 + (k + (12 - m)) % 12
place_before-bottom n m k le = cond-false (nat_lt k 12) _ _ (le-ltb k 12 le)

pub place_before-lt : (n m k : ℕ) → place_before n m k < 24
place_before-lt n m k = grind (arith, nat_tests)

-- two turns are one
place_before-both : (n m i j k : ℕ) → n < 12 → m < 12 → i < 12 → j < 12 → k < 24
    → place_before n m (place_before i j k) ≡ place_before ((n + i) % 12) ((m + j) % 12) k
place_before-both n m i j k ln lm li lj lt = grind (arith, nat_tests)

pub turn_places-both : (n m i j : ℕ) → n < 12 → m < 12 → i < 12 → j < 12
    → pick (turn_places n m) (turn_places i j) ≡ turn_places ((n + i) % 12) ((m + j) % 12)
unfolding turn_places
turn_places-both n m i j ln lm li lj =
    search (arith, rules, pick-places_by, place_before-lt, same_places, place_before-both)

pub turn_places-none : turn_places 0 0 ≡ numbers_from 0 24
unfolding turn_places
turn_places-none = refl

pub twist_places-twice : pick twist_places twist_places ≡ numbers_from 0 24
unfolding twist_places
twist_places-twice = refl

-- the unit behind and the unit before a unit, round its layer
abbrev pub next_unit : ℕ → ℕ
next_unit k = if k == 11 then 0 else (if k == 23 then 12 else k + 1)

abbrev pub previous_unit : ℕ → ℕ
previous_unit k = if k == 0 then 11 else (if k == 12 then 23 else k - 1)

-- neighbours come to neighbours
abbrev keeps_neighbours : (ℕ → ℕ) → ℕ → Bool
keeps_neighbours place k = (place (next_unit k) == next_unit (place k)) && (place (previous_unit k) == previous_unit (place k))

-- what the test says of the turn by so many twelfths
abbrev is_turn_table : ℕ → ℕ → Bool
is_turn_table n m = is_permutation 24 (places_by (place_before n m)) && all_below (keeps_neighbours (place_before n m)) 24

turn_tables : IsTrue (all_below (λ n. all_below (λ m. is_turn_table n m) 12) 12)
unfolding all_below
turn_tables = refl

pub record IsTurnTable (n m : ℕ) : Type 0 where
  pub permutation : IsPermutation 24 (turn_places n m)
  pub next : (k : ℕ) → k < 24
      → slice_index (turn_places n m) (next_unit k) ≡ next_unit (slice_index (turn_places n m) k)
  pub previous : (k : ℕ) → k < 24
      → slice_index (turn_places n m) (previous_unit k) ≡ previous_unit (slice_index (turn_places n m) k)

-- a unit's neighbours are units
next_units : IsTrue (all_below (λ i. nat_lt (next_unit i) 24) 24)
unfolding all_below
next_units = refl

pub next_unit-lt : (k : ℕ) → k < 24 → next_unit k < 24
next_unit-lt k lt = ltb-true (next_unit k) 24 (at_below (λ i. nat_lt (next_unit i) 24) 24 k next_units lt)

previous_units : IsTrue (all_below (λ i. nat_lt (previous_unit i) 24) 24)
unfolding all_below
previous_units = refl

pub previous_unit-lt : (k : ℕ) → k < 24 → previous_unit k < 24
previous_unit-lt k lt = ltb-true (previous_unit k) 24 (at_below (λ i. nat_lt (previous_unit i) 24) 24 k previous_units lt)

pub IsTurnTable-turn : (n m : ℕ) → n < 12 → m < 12 → IsTurnTable n m
unfolding turn_places
IsTurnTable-turn n m ln lm =
    let place : ℕ → ℕ = place_before n m in
    let row = at_below (λ i. all_below (λ j. is_turn_table i j) 12) 12 n turn_tables ln in
    let both = and_parts (is_permutation 24 (places_by place)) (all_below (keeps_neighbours place) 24) (at_below (λ j. is_turn_table n j) 12 m row lm) in
    let sides = λ (k : ℕ) (lt : k < 24). and_parts (place (next_unit k) == next_unit (place k)) (place (previous_unit k) == previous_unit (place k))
    (at_below (keeps_neighbours place) 24 k both.1 lt) in
    record {
      permutation = IsPermutation-from_test 24 (places_by place) both.0;
      next = λ k lt.
          places_by-at place (next_unit k) (next_unit-lt k lt) ∙ eqb-true (place (next_unit k)) (next_unit (place k)) (sides k lt).0
          ∙ ap next_unit (sym (places_by-at place k lt));
      previous = λ k lt.
          places_by-at place (previous_unit k) (previous_unit-lt k lt) ∙ eqb-true (place (previous_unit k)) (previous_unit (place k)) (sides k lt).1
          ∙ ap previous_unit (sym (places_by-at place k lt));
    }

-- ---- the twist

-- where the piece that comes to a unit stood before a twist
abbrev pub place_before_twist : ℕ → ℕ
place_before_twist k = if nat_lt k 6 then k + 12 else (if nat_lt k 12 then k else (if nat_lt k 18 then k - 12 else k))

pub twist_places-by : twist_places ≡ places_by place_before_twist
unfolding twist_places
twist_places-by = refl

pub twist_places-at : (k : ℕ) → k < 24 → slice_index twist_places k ≡ place_before_twist k
twist_places-at k lt = ap (λ xs. slice_index xs k) twist_places-by ∙ places_by-at place_before_twist k lt

pub IsPermutation-twist_places : IsPermutation 24 twist_places
unfolding twist_places
IsPermutation-twist_places = IsPermutation-from_test 24 twist_places refl

-- a twist leaves each half together
pub record StaysInHalf (k : ℕ) : Type 0 where
  pub at : slice_index twist_places k % 6 ≡ k % 6
  pub behind : k % 6 < 5 → slice_index twist_places (suc k) ≡ suc (slice_index twist_places k)

stays_in_half : ℕ → Bool
stays_in_half k = (place_before_twist k % 6 == k % 6) && (if nat_lt (k % 6) 5 then place_before_twist (suc k) == suc (place_before_twist k) else true)

all_stay : IsTrue (all_below stays_in_half 24)
unfolding all_below stays_in_half
all_stay = refl

pub StaysInHalf-twist : (k : ℕ) → k < 24 → StaysInHalf k
unfolding stays_in_half
StaysInHalf-twist k lt = grind (arith, nat_tests, and_parts, at_below, all_stay, twist_places-at)
