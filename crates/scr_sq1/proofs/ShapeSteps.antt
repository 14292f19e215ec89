-- The tables of the halves, and the steps of the loops over shapes.
use Rattle.std.proofs.lemmas.Grind.{common_steps}
use Rattle.std.proofs.Common.{rules}
use Rattle.std.proofs.Common.{◌≡◌, ℕ, zero, suc, ◌+◌, ◌-◌, ◌*◌, ◌^◌, ◌<◌, ◌≤◌, IsTrue, Bool, cond, List, [], ◌∷◌, ◌++◌, length, take, drop, get_or, set, slice_index, refl, sym, ap, ◌∙◌, arith, eqb-true, lit≤}
use Rattle.std.proofs.lemmas.Bool.Decides.{nat_tests}
use Rattle.std.specs.Prelude.{◌==◌, nat_lt, map}
use Rattle.std.proofs.lemmas.Bool.{cases_lt, ltb-true}
use Rattle.scr_combinatorics.specs.Lists.{total}
use Rattle.std.proofs.lemmas.List.{length-append, length-take-le, length-drop, drop-drop, drop-take, drop_all, get_or-take, length-take, nil_from_length, length-set, take_all, append-nil, drop_more, take_more_set, append_assoc, at_drop_more}
use Rattle.std.proofs.lemmas.Nat.{pow_pos}
use Rattle.std.proofs.Math.Nat.{pow-suc}
use Rattle.scr_notation.specs.Ranges.{all_below}
use Rattle.scr_notation.proofs.Below.{at_below}
use Rattle.scr_combinatorics.proofs.Counts.{one_if-le_one}
use Rattle.scr_combinatorics.specs.Permutations.{place_of}
use Rattle.scr_sq1.specs.declared.shapes.TheConstants.{CORNERS, WAYS, HALF_OF_BITS}
use Rattle.scr_sq1.specs.Units.{is_corner}
use Rattle.scr_sq1.specs.Shapes.{half_words, corner_counts, half_of, shape_of, ways_after, run_of, AreHalves, IsShape, halves_at, shape_number, shape_at}
use Rattle.scr_sq1.proofs.HalfNumbers.{ways_to_have, ways-suc, ways_after-few, ways_after-many, length-corner_counts, halves_number, shape_number-halves, run_of-here, run_of-later, StartsWith, StartsWith-halves, halves_number-cons, shapes_one_to_one, ways_of_shapes}
use Rattle.scr_sq1.proofs.HalfWords.{corner_count, corner_bits, half_bits, half_of-bits, halves_in, shape_of-halves}

-- ---- lists that are read off, element by element

-- so much of a list stands in the first places, and the rest is left
pub record IsReadTo {A : Type 0} (places found : ℕ) (out rest whole : List A) : Type 0 where
  pub size : length out ≡ places
  pub few : found ≤ places
  pub read : take found out ++ rest ≡ whole

module _ {A : Type 0} (places found : ℕ) (out rest whole : List A) (r : IsReadTo places found out rest whole) where
  -- how many are left
  left : length whole ≡ found + length rest
  left = omega (arith, ap length r.read, length-append (take found out) rest, length-take-le found out (omega (arith, r.few, r.size)))

  pub read_room : (x : A) (more : List A) → length whole ≡ places → rest ≡ x ∷ more → found < places
  read_room x more all e = omega (arith, all, left, ap length e)

  -- one more
  pub read_more : (x : A) (more : List A) → found < places → rest ≡ x ∷ more
      → IsReadTo places (found + 1) (set out found x) more whole
  read_more x more room e = grind (arith, nat_tests, length-set, take_more_set, append_assoc)

  -- all of them
  pub read_all : places ≤ found → rest ≡ [] → out ≡ whole
  read_all le e = grind (arith, nat_tests, take_all, append-nil)

  pub read_whole : length whole ≡ places → rest ≡ [] → out ≡ whole
  read_whole all e = read_all (omega (arith, all, left, ap length e)) e

-- ---- the tables

corners_table : CORNERS ≡ corner_counts
unfolding half_words corner_counts
corners_table = refl

pub corners_table-at : (h : ℕ) → get_or CORNERS h 0 ≡ corner_count h
corners_table-at h = ap (λ xs. get_or xs h 0) corners_table

-- in how many ways n halves can follow one that has k of c corners
is_ways : ℕ → ℕ → ℕ → Bool
is_ways n c k = get_or (get_or WAYS n []) (c + 3 - k) 0 == ways_after n c k

ways_tables : IsTrue (all_below (λ n. all_below (λ c. all_below (is_ways n c) 4) 9) 4)
unfolding all_below is_ways half_words corner_counts ways_after
ways_tables = refl

few_corners : IsTrue (all_below (λ h. nat_lt (corner_count h) 4) 13)
unfolding all_below half_words corner_counts
few_corners = refl

pub corner_count-few : (h : ℕ) → h < 13 → corner_count h ≤ 3
corner_count-few h lt = omega (arith, ltb-true (corner_count h) 4 (at_below (λ h. nat_lt (corner_count h) 4) 13 h few_corners lt))

pub ways_table : (n c h : ℕ) → n ≤ 3 → c ≤ 8 → h < 13
    → get_or (get_or WAYS n []) (c + 3 - get_or CORNERS h 0) 0 ≡ ways_after n c (corner_count h)
unfolding is_ways
ways_table n c h ln lc lh =
    let k : ℕ = corner_count h in
    ap (λ i. get_or (get_or WAYS n []) (c + 3 - i) 0) (corners_table-at h)
    ∙ eqb-true (get_or (get_or WAYS n []) (c + 3 - k) 0) (ways_after n c k)
    (at_below (is_ways n c) 4 k
    (at_below (λ c. all_below (is_ways n c) 4) 9 c
    (at_below (λ n. all_below (λ c. all_below (is_ways n c) 4) 9) 4 n ways_tables (omega arith)) (omega arith)) (omega (arith, corner_count-few h lh)))

half_tables : IsTrue (all_below (λ b. get_or HALF_OF_BITS b 0 == place_of b half_bits) 64)
unfolding all_below half_words half_bits
half_tables = refl

half_table : (units : List ℕ) (b : ℕ) → length units ≡ 6 → b ≡ corner_bits units → b < 64
    → get_or HALF_OF_BITS b 0 ≡ half_of units
half_table units b six e lt =
    eqb-true (get_or HALF_OF_BITS b 0) (place_of b half_bits) (at_below (λ b. get_or HALF_OF_BITS b 0 == place_of b half_bits) 64 b half_tables lt)
    ∙ ap (λ i. place_of i half_bits) e ∙ sym (half_of-bits units six)

-- ---- the bits of six units

pub corner_bits-lt : (n : ℕ) (units : List ℕ) → length units ≤ n → corner_bits units < 2 ^ n
corner_bits-lt n [] le = omega (arith, pow_pos n)
corner_bits-lt zero (u ∷ us) le = absurd (omega arith)
corner_bits-lt (suc n) (u ∷ us) le = omega (arith, corner_bits-lt n us (omega arith), pow-suc 2 n, one_if-le_one (is_corner u))

-- those of a half, from its last unit on
pub half_bits-none : (units : List ℕ) (n k : ℕ) → n ≤ k → corner_bits (drop k (take n units)) ≡ 0
half_bits-none units n k le = ap corner_bits (drop_all k (take n units) (omega (arith, le, length-take n units)))

pub half_bits-more : (units : List ℕ) (n k : ℕ) → k < n → n ≤ length units
    → corner_bits (drop k (take n units)) ≡ cond (is_corner (slice_index units k)) 1 0 + 2 * corner_bits (drop (k + 1) (take n units))
half_bits-more units n k lt le =
    grind (arith, nat_tests, common_steps, at_drop_more, corner_bits, length-take-le, get_or-take)

pub half_bits-lt : (units : List ℕ) (n k : ℕ) → n ≤ k + 6 → n ≤ length units → corner_bits (drop k (take n units)) < 64
half_bits-lt units n k le inside = grind (arith, nat_tests, common_steps, corner_bits-lt, length-drop, length-take-le)

-- ---- runs

-- one half less
pub run_of-next : (f : ℕ → ℕ) (ks : List ℕ) (i r : ℕ) → i < length ks → f (slice_index ks i) ≤ r
    → (let p : ℕ × ℕ = (suc (run_of f (drop (i + 1) ks) (r - f (slice_index ks i))).0, (run_of f (drop (i + 1) ks) (r - f (slice_index ks i))).1) in run_of f (drop i ks) r ≡ p)
run_of-next f ks i r lt le = grind (arith, nat_tests, common_steps, at_drop_more, run_of-later)

pub run_of-found : (f : ℕ → ℕ) (ks : List ℕ) (i r : ℕ) → i < length ks → r < f (slice_index ks i)
    → (let p : ℕ × ℕ = (0, r) in run_of f (drop i ks) r ≡ p)
run_of-found f ks i r lt less = grind (arith, nat_tests, common_steps, at_drop_more, run_of-here)

-- the halves behind a place, and those behind the next one
places_left : (place : ℕ) → place < 4 → 4 - place ≡ suc (3 - place)
places_left place lt = omega arith

places_after : (place : ℕ) → place < 4 → 3 - place ≡ 4 - (place + 1)
places_after place lt = omega arith

-- ---- the number of a shape, half by half

-- so many halves are left, and the number of those before them
pub record CountedHalves (n corners number : ℕ) (left hs : List ℕ) : Type 0 where
  pub halves : AreHalves n corners left
  pub counted : number + halves_number corners left ≡ shape_number hs
  pub few : corners ≤ 8

pub counted_start : (hs : List ℕ) → IsShape hs → CountedHalves 4 8 0 hs hs
counted_start hs shape = record { halves = shape; counted = omega (arith, shape_number-halves hs shape); few = lit≤ tt }

-- the same while the lists that begin with a lower half are counted
pub record CountingLower (place corners half lower number : ℕ) (hs : List ℕ) : Type 0 where
  pub few : corners ≤ 8
  pub first : StartsWith (3 - place) corners half (drop (place + 1) hs)
  pub counted : number + total (map (ways_after (3 - place) corners) (drop lower (take half corner_counts)))
      + halves_number (corners - corner_count half) (drop (place + 1) hs) ≡ shape_number hs

pub lower_start : (place corners half number : ℕ) (hs : List ℕ) → place < 4 → IsShape hs → half ≡ slice_index hs place
    → CountedHalves (4 - place) corners number (drop place hs) hs → CountingLower place corners half 0 number hs
lower_start place corners half number hs lt shape e c =
    grind (arith, nat_tests, common_steps, drop_more, StartsWith-halves, places_left, halves_number, halves_number-cons)

module _ (place corners half lower number : ℕ) (hs : List ℕ) (l : CountingLower place corners half lower number hs) where
  -- the next lower half
  lower_more : lower < half → total (map (ways_after (3 - place) corners) (drop lower (take half corner_counts)))
      ≡ ways_after (3 - place) corners (corner_count lower) + total (map (ways_after (3 - place) corners) (drop (lower + 1) (take half corner_counts)))
  lower_more lt =
      grind (arith, nat_tests, common_steps, at_drop_more, length-take-le, length-corner_counts, get_or-take)

  pub lower_small : lower < half → IsShape hs → number + ways_after (3 - place) corners (corner_count lower) < 3678
  lower_small lt shape = omega (arith, l.counted, lower_more lt, shapes_one_to_one.below hs shape)

  pub lower_next : (run : ℕ) → run ≡ ways_after (3 - place) corners (corner_count lower) → lower < half
      → CountingLower place corners half (lower + 1) (number + run) hs
  lower_next run is lt = record { few = l.few; first = l.first; counted = omega (arith, l.counted, is, lower_more lt) }

  pub lower_end : (count : ℕ) → count ≡ corner_count half → half ≤ lower → place < 4
      → CountedHalves (4 - (place + 1)) (corners - count) number (drop (place + 1) hs) hs
  lower_end count is le lt =
      search (arith, rules, drop_all, length-take-le, length-corner_counts, corner_count, places_after)

pub counted_whole : (place corners number : ℕ) (hs : List ℕ) → 4 ≤ place
    → CountedHalves (4 - place) corners number (drop place hs) hs → number ≡ shape_number hs
unfolding halves_number
counted_whole place corners number hs le c = grind (arith, nat_tests, nil_from_length)

-- ---- the shape of a number

-- so many halves are made, and so many are left
pub record MadeHalves (place n corners rest number : ℕ) (halves : List ℕ) : Type 0 where
  pub few : corners ≤ 8
  pub below : rest < ways_to_have n corners
  pub made : IsReadTo 4 place halves (halves_at n corners rest) (shape_at number)

pub made_start : (number : ℕ) → number < 3678 → MadeHalves 0 4 8 number number (0 ∷ 0 ∷ 0 ∷ 0 ∷ [])
unfolding shape_at
made_start number lt = grind (arith, nat_tests, ways_of_shapes)

-- the next half is this one or a higher one, and its list has so many numbers before it yet
pub record FallingHalf (place n corners half rest number : ℕ) (halves : List ℕ) : Type 0 where
  pub few : corners ≤ 8
  pub low : half < 13
  pub below : rest < total (map (ways_after n corners) (drop half corner_counts))
  pub first : ℕ
  pub first_is : first ≡ half + (run_of (ways_after n corners) (drop half corner_counts) rest).0
  pub made : IsReadTo 4 place halves (first ∷ halves_at n (corners - slice_index corner_counts first)
      (run_of (ways_after n corners) (drop half corner_counts) rest).1) (shape_at number)

pub falling_start : (place corners rest number : ℕ) (halves : List ℕ) → place < 4
    → MadeHalves place (4 - place) corners rest number halves → FallingHalf place (3 - place) corners 0 rest number halves
unfolding halves_at
falling_start place corners rest number halves lt m = search (arith, rules, places_left, ways-suc)

module _ (place n corners half rest number : ℕ) (halves : List ℕ) (l : FallingHalf place n corners half rest number halves)
    (run : ℕ) (is : run ≡ ways_after n corners (corner_count half)) where
  pub falling_next : run ≤ rest → FallingHalf place n corners (half + 1) (rest - run) number halves
  falling_next le =
      grind (arith, nat_tests, common_steps, length-corner_counts, run_of-next, at_drop_more, cases_lt, drop_all)

  pub falling_few : rest < run → corner_count half ≤ corners
  falling_few less = search (arith, rules, cases_lt, corner_count, ways_after-many)

  pub falling_found : rest < run → place < 4 → n ≡ 3 - place → (count : ℕ) → count ≡ corner_count half
      → MadeHalves (place + 1) (4 - (place + 1)) (corners - count) rest number (set halves place half)
  falling_found less lt en count ec =
      grind (arith, nat_tests, common_steps, run_of-found, length-corner_counts, falling_few, corner_count, ways_after-few, read_more, places_after)

pub made_end : (place n corners rest number : ℕ) (halves : List ℕ) → 4 ≤ place → n ≡ 0
    → MadeHalves place n corners rest number halves → halves ≡ shape_at number
unfolding halves_at
made_end place n corners rest number halves le e m = search (arith, rules, read_all)

-- ---- the shape of units

-- so many halves are read, and so many are left
abbrev pub ReadHalves : ℕ → ℕ → List ℕ → List ℕ → Type 0
ReadHalves place n units halves = IsReadTo 4 place halves (halves_in n (drop (6 * place) units)) (shape_of units)

pub read_start : (units : List ℕ) → ReadHalves 0 4 units (0 ∷ 0 ∷ 0 ∷ 0 ∷ [])
read_start units = record { size = refl; few = omega arith; read = sym (shape_of-halves units) }

pub read_step : (place n h : ℕ) (units halves : List ℕ) → place < 4 → ReadHalves place (suc n) units halves
    → h ≡ half_of (take 6 (drop (6 * place) units)) → ReadHalves (place + 1) n units (set halves place h)
unfolding halves_in
read_step place n h units halves lt r e =
    read_more 4 place halves _ _ r h _ lt
    (ap (λ x. x ∷ halves_in n (drop 6 (drop (6 * place) units))) (sym e)
    ∙ ap (λ us. h ∷ halves_in n us) (drop-drop 6 (6 * place) units ∙ ap (λ k. drop k units) (omega arith)))

pub read_end : (place n : ℕ) (units halves : List ℕ) → 4 ≤ place → n ≡ 0 → ReadHalves place n units halves
    → halves ≡ shape_of units
unfolding halves_in
read_end place n units halves le e r = read_all 4 place halves _ _ r le (ap (λ k. halves_in k (drop (6 * place) units)) e)

-- the same as it was computed
pub read_next : (place bits : ℕ) (units halves : List ℕ) → place < 4 → length units ≡ 24 → ReadHalves place (4 - place) units halves
    → bits ≡ corner_bits (drop (6 * place) (take (6 * place + 6) units))
    → ReadHalves (place + 1) (4 - (place + 1)) units (set halves place (get_or HALF_OF_BITS bits 0))
read_next place bits units halves lt size r e =
    search (arith, rules, drop-take, length-drop, length-take-le, half_table, corner_bits, corner_bits-lt, places_after, read_step, places_left)
