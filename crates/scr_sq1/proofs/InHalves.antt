-- The two units of each corner lie in one half, side by side, where they are neighbours and no corner lies across the
-- cut, and the other way round.
use Rattle.std.proofs.Common.{rules}
use Rattle.std.proofs.Common.{◌≡◌, ℕ, zero, suc, ◌+◌, ◌%◌, ◌<◌, ◌≤◌, ◌⊎◌, inl, inr, Bool, true, false, IsTrue, not, List, [], ◌∷◌, length, slice_index, cond, refl, sym, ◌∙◌, arith, eqb-true, eq-eqb, ltb-true}
use Rattle.std.proofs.lemmas.Bool.Decides.{nat_tests}
use Rattle.std.specs.Prelude.{◌&&◌, ◌||◌, ◌==◌}
use Rattle.std.proofs.lemmas.Bool.{cases_eq, cases_lt, false≢true, and_parts, and_from, or_cases, or_left, or_right, lt-ltb, le-ltb, ne_eqb, cond-true, cond-false}
use Rattle.scr_combinatorics.specs.Lists.{occurrences}
use Rattle.scr_combinatorics.specs.Permutations.{place_of}
use Rattle.scr_combinatorics.proofs.Counts.{one_if-same, occurrences-twice}
use Rattle.scr_combinatorics.proofs.PermutationLaws.{place_of-lt, at-place_of}
use Rattle.scr_sq1.specs.Units.{Sq1State, IsSq1, is_corner, are_of_one_corner, is_open}
use Rattle.scr_sq1.proofs.Places.{next_unit, previous_unit}

-- an element that stands at three places occurs three times
pub occurrences-thrice : (xs : List ℕ) (i j k : ℕ) → i < j → j < k → k < length xs → slice_index xs i ≡ slice_index xs k
    → slice_index xs j ≡ slice_index xs k → 3 ≤ occurrences (slice_index xs k) xs
occurrences-thrice (x ∷ xs) zero (suc j) (suc k) a b lt d e = search (arith, rules, one_if-same, occurrences-twice)
occurrences-thrice (x ∷ xs) (suc i) (suc j) (suc k) a b lt d e =
    omega (arith, occurrences-thrice xs i j k (omega arith) (omega arith) (omega arith) d e)
occurrences-thrice _ i j k a b lt d e = absurd (omega arith)

-- the unit behind this one, or the one before, lies in the same half and is of the same piece
abbrev pub HasPartner : List ℕ → ℕ → Type 0
HasPartner units k =
    ((k % 6 < 5) × (slice_index units (suc k) ≡ slice_index units k))
    ⊎ ((j : ℕ) × (suc j ≡ k) × (j % 6 < 5) × (slice_index units j ≡ slice_index units k))

-- what a valid state has of each piece, and that each corner's units lie in one half
pub record InHalves (units : List ℕ) : Type 0 where
  pub size : length units ≡ 24
  pub corners : (p : ℕ) → p < 8 → occurrences p units ≡ 2
  pub edges : (p : ℕ) → 8 ≤ p → p < 16 → occurrences p units ≡ 1
  pub partners : (k : ℕ) → k < 24 → slice_index units k < 8 → HasPartner units k

corner_fills : (p : ℕ) → p < 8 → (let filled : ℕ = cond (is_corner p) 2 1 in filled ≡ 2)
corner_fills p lt = cond-true {A = ℕ} (is_corner p) 2 1 (lt-ltb p 8 lt)

edge_fills : (p : ℕ) → 8 ≤ p → (let filled : ℕ = cond (is_corner p) 2 1 in filled ≡ 1)
edge_fills p le = cond-false {A = ℕ} (is_corner p) 2 1 (le-ltb p 8 le)

-- a unit's piece fills a neighbouring unit too
abbrev pub fills_neighbour : List ℕ → ℕ → Bool
fills_neighbour units k =
    (slice_index units (next_unit k) == slice_index units k)
    || (slice_index units (previous_unit k) == slice_index units k)

-- a piece fills its units: a corner two, one behind the other in a half, and an edge one
pub record FillsItsUnits (p : ℕ) (units : List ℕ) : Type 0 where
  pub filled : occurrences p units ≡ cond (is_corner p) 2 1
  pub behind : p < 8 → (place_of p units % 6 < 5) × (slice_index units (suc (place_of p units)) ≡ p)

pub IsSq1-filled : (s : Sq1State) → length s.units ≡ 24 → ((p : ℕ) → p < 16 → FillsItsUnits p s.units) → IsSq1 s
IsSq1-filled s size each = record {
  size = size;
  pieces = λ p lt. (each p lt).filled;
  corners = λ p lt. (each p (omega arith)).behind lt;
}

-- what is so of valid units round their layers
pub record IsPutTogether (units : List ℕ) : Type 0 where
  pub size : length units ≡ 24
  pub pieces : (p : ℕ) → p < 16 → occurrences p units ≡ cond (is_corner p) 2 1
  pub neighbours : (k : ℕ) → k < 24 → IsTrue (is_corner (slice_index units k)) → IsTrue (fills_neighbour units k)
  pub opened : IsTrue (is_open units)

-- ---- from what is tested

-- a test that does not hold
pub not_false : (b : Bool) → (IsTrue b → ⊥) → IsTrue (not b)
not_false true h = absurd (h refl)
not_false false h = refl

pub not_true : (b : Bool) → IsTrue (not b) → IsTrue b → ⊥
not_true true h t = false≢true h
not_true false h t = false≢true t

pub one_corner : (units : List ℕ) (j k : ℕ) → slice_index units j < 8 → slice_index units k ≡ slice_index units j
    → IsTrue (are_of_one_corner units j k)
one_corner units j k lt e = and_from (is_corner (slice_index units j)) (slice_index units k == slice_index units j) (lt-ltb (slice_index units j) 8 lt) (eq-eqb (slice_index units k) (slice_index units j) e)

pub of_one_corner : (units : List ℕ) (j k : ℕ) → IsTrue (are_of_one_corner units j k)
    → (slice_index units j < 8) × (slice_index units k ≡ slice_index units j)
of_one_corner units j k h = grind (arith, nat_tests, and_parts)

-- the four places of the cut
pub record IsOpen (units : List ℕ) : Type 0 where
  pub top_back : IsTrue (are_of_one_corner units 11 0) → ⊥
  pub top_front : IsTrue (are_of_one_corner units 5 6) → ⊥
  pub bottom_front : IsTrue (are_of_one_corner units 23 12) → ⊥
  pub bottom_back : IsTrue (are_of_one_corner units 17 18) → ⊥

-- the same four tests, those of one layer together
pub is_open-layers : (units : List ℕ) → is_open units
    ≡ ((not (are_of_one_corner units 11 0) && not (are_of_one_corner units 5 6))
    && (not (are_of_one_corner units 23 12) && not (are_of_one_corner units 17 18)))
is_open-layers units = grind (arith, nat_tests)

pub IsOpen-test : (units : List ℕ) → IsTrue (is_open units) → IsOpen units
IsOpen-test units h = grind (arith, nat_tests, and_parts, is_open-layers, not_true)

pub is_open-from : (units : List ℕ) → IsOpen units → IsTrue (is_open units)
is_open-from units o = grind (arith, nat_tests, is_open-layers, and_from, not_false)

-- ---- neighbours inside a half, and across the cut

next_unit-inside : (k : ℕ) → k < 24 → k % 6 < 5 → next_unit k ≡ suc k
next_unit-inside k lt inside = grind (arith, nat_tests, ne_eqb)

previous_unit-inside : (j : ℕ) → suc j < 24 → j % 6 < 5 → previous_unit (suc j) ≡ j
previous_unit-inside j lt inside = grind (arith, nat_tests, ne_eqb)

-- the units that are so far on in their halves
module _ (P : ℕ → Type 0) (d : ℕ) (top_right : P d) (top_left : P (6 + d)) (bottom_right : P (12 + d)) (bottom_left : P (18 + d)) where
  by_half : (k : ℕ) → k < 24 → k % 6 ≡ d → P k
  by_half k lt there = grind (arith, nat_tests)

module _ (units : List ℕ) (h : IsPutTogether units) where
  -- no corner goes on across the cut
  not_behind : (k : ℕ) → k < 24 → k % 6 ≡ 5 → slice_index units k < 8
      → slice_index units (next_unit k) ≡ slice_index units k → ⊥
  not_behind =
      let o = IsOpen-test units h.opened in
      by_half (λ k. slice_index units k < 8 → slice_index units (next_unit k) ≡ slice_index units k → ⊥) 5
      (λ c e. o.top_front (one_corner units 5 6 c e))
      (λ c e. o.top_back (one_corner units 11 0 c e))
      (λ c e. o.bottom_back (one_corner units 17 18 c e))
      (λ c e. o.bottom_front (one_corner units 23 12 c e))

  not_before : (k : ℕ) → k < 24 → k % 6 ≡ 0 → slice_index units k < 8
      → slice_index units (previous_unit k) ≡ slice_index units k → ⊥
  not_before =
      let o = IsOpen-test units h.opened in
      by_half (λ k. slice_index units k < 8 → slice_index units (previous_unit k) ≡ slice_index units k → ⊥) 0
      (λ c e. o.top_back (one_corner units 11 0 (omega arith) (sym e)))
      (λ c e. o.top_front (one_corner units 5 6 (omega arith) (sym e)))
      (λ c e. o.bottom_front (one_corner units 23 12 (omega arith) (sym e)))
      (λ c e. o.bottom_back (one_corner units 17 18 (omega arith) (sym e)))

  behind : (k : ℕ) → k < 24 → slice_index units k < 8 → slice_index units (next_unit k) ≡ slice_index units k
      → HasPartner units k
  behind k lt corner e = grind (arith, nat_tests, next_unit-inside, not_behind)

  before : (k : ℕ) → k < 24 → slice_index units k < 8 → slice_index units (previous_unit k) ≡ slice_index units k
      → HasPartner units k
  before k lt corner e = grind (arith, nat_tests, not_before, previous_unit-inside)

  pub InHalves-together : InHalves units
  InHalves-together = record {
    size = h.size;
    corners = λ p lt. h.pieces p (omega arith) ∙ corner_fills p lt;
    edges = λ p le lt. h.pieces p lt ∙ edge_fills p le;
    partners = λ k lt corner.
        let a = slice_index units (next_unit k) == slice_index units k in
        let b = slice_index units (previous_unit k) == slice_index units k in
        elim (or_cases a b (h.neighbours k lt (lt-ltb (slice_index units k) 8 corner))) [
          | inl e ↦ behind k lt corner (eqb-true (slice_index units (next_unit k)) (slice_index units k) e)
          | inr e ↦ before k lt corner (eqb-true (slice_index units (previous_unit k)) (slice_index units k) e)
        ];
  }

-- ---- and back

module _ (units : List ℕ) (h : InHalves units) where
  -- no corner fills three units
  pub no_third : (i j k : ℕ) → i < j → j < k → k < 24 → slice_index units k < 8
      → slice_index units i ≡ slice_index units k → slice_index units j ≡ slice_index units k → ⊥
  no_third i j k a b lt corner d e =
      omega (arith, h.size, occurrences-thrice units i j k a b (omega (arith, h.size)) d e, h.corners (slice_index units k) corner)

  -- a corner at the last unit of a half has its other unit before it
  partner_before : (j : ℕ) → suc j < 24 → 5 ≤ suc j % 6 → slice_index units (suc j) < 8
      → slice_index units j ≡ slice_index units (suc j)
  partner_before j lt last corner = grind (arith, nat_tests)

  -- so its third unit would lie across the cut
  apart : (j k : ℕ) → suc j < 24 → 5 ≤ suc j % 6 → k < 24 → (suc j < k) ⊎ (k < j)
      → IsTrue (are_of_one_corner units (suc j) k) → ⊥
  apart j k lt last low order one =
      let is = of_one_corner units (suc j) k one in
      let first : slice_index units j ≡ slice_index units (suc j) = partner_before j lt last is.0 in grind (arith, nat_tests, no_third)

  IsOpen-halves : IsOpen units
  IsOpen-halves = grind (arith, nat_tests, apart)

  partner_fills : (k : ℕ) → k < 24 → HasPartner units k → IsTrue (fills_neighbour units k)
  partner_fills k lt (inl p) = grind (arith, nat_tests, or_left, next_unit-inside)
  partner_fills k lt (inr p) = grind (arith, nat_tests, previous_unit-inside, or_right)

  pub IsPutTogether-halves : IsPutTogether units
  IsPutTogether-halves =
      search (arith, rules, cases_lt, corner_fills, edge_fills, partner_fills, ltb-true, is_open-from, IsOpen-halves)

-- ---- valid states

-- no x stands before the place of the first one
before_first : (x : ℕ) (xs : List ℕ) (j : ℕ) → j < place_of x xs → slice_index xs j ≡ x → ⊥
before_first x [] j lt e = absurd (omega arith)
before_first x (y ∷ ys) zero lt e = omega (arith, cond-true (y == x) 0 (suc (place_of x ys)) (eq-eqb y x e))
before_first x (y ∷ ys) (suc j) lt e =
    elim (cases_eq y x) [
      | inl here ↦ absurd (omega (arith, cond-true (y == x) 0 (suc (place_of x ys)) (eq-eqb y x here)))
      | inr other ↦ before_first x ys j (omega (arith, cond-false (y == x) 0 (suc (place_of x ys)) (ne_eqb y x other))) e
    ]

module _ (s : Sq1State) (h : IsSq1 s) where
  valid_partner : (k : ℕ) → k < 24 → slice_index s.units k < 8 → HasPartner s.units k
  valid_partner k lt corner =
      let us = s.units in
      let p : ℕ = slice_index us k in
      let first : ℕ = place_of p us in
      let two : occurrences p us ≡ 2 = h.pieces p (omega arith) ∙ corner_fills p corner in
      let at : slice_index us first ≡ p = at-place_of p us (omega (arith, two)) in
      let low : first < 24 = omega (arith, place_of-lt p us (omega (arith, two)), h.size) in
      let lies = h.corners p corner in
      let next : suc first < 24 = omega (arith, low, lies.0) in grind (arith, nat_tests, cases_eq, cases_lt, before, occurrences-thrice, behind)

  pub InHalves-valid : InHalves s.units
  InHalves-valid = grind (arith, nat_tests, corner_fills, edge_fills, valid_partner)

pub IsSq1-halves : (units : List ℕ) → InHalves units → (equator : Bool)
    → IsSq1 (record { units = units; equator = equator })
IsSq1-halves units h equator = record {
  size = h.size;
  pieces = (IsPutTogether-halves units h).pieces;
  corners = λ p lt. grind (arith, nat_tests, at-place_of, place_of-lt, before_first);
}

pub IsPutTogether-valid : (s : Sq1State) → IsSq1 s → IsPutTogether s.units
IsPutTogether-valid s h = IsPutTogether-halves s.units (InHalves-valid s h)

pub IsSq1-together : (units : List ℕ) (equator : Bool) → IsPutTogether units
    → IsSq1 (record { units = units; equator = equator })
IsSq1-together units equator h = IsSq1-halves units (InHalves-together units h) equator

-- no corner of a valid state lies across the cut
pub is_open-valid : (s : Sq1State) → IsSq1 s → IsTrue (is_open s.units)
is_open-valid s h = (IsPutTogether-valid s h).opened
