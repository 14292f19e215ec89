-- The goals of a product, row by row: a row is the positions with one high part.
use Rattle.std.proofs.Common.{◌≡◌, ℕ, ◌+◌, ◌-◌, ◌*◌, ◌/◌, ◌%◌, ◌<◌, ◌≤◌, false, inl, inr, ap, ◌∙◌, arith}
use Rattle.std.specs.Prelude.{◌&&◌}
use Rattle.std.proofs.Math.Bool.{and-false}
use Rattle.std.proofs.Math.Nat.{div-add-mod, div-lt_iff_lt-mul}
use Rattle.std.proofs.lemmas.Bool.{cases_lt}
use Rattle.std.proofs.lemmas.Nat.{mul-add-lt, mul-le}
use Rattle.std.specs.Cmp.Derive.{both_true}
use Rattle.scr_positions.specs.Coordinates.{Coordinate, IsGoal, HasNoGoal, IsNextGoal}
use Rattle.scr_positions.specs.Products.{product_coordinate}
use Rattle.scr_positions.proofs.ProductLaws.{part-low, part-high, row_at}
use Rattle.scr_positions.proofs.StaysBelowLaws.{part_below}

-- ---- one stretch of positions behind another

pub HasNoGoal-joined : (c : Coordinate) (from middle to : ℕ) → HasNoGoal c from middle → HasNoGoal c middle to
    → HasNoGoal c from to
HasNoGoal-joined c from middle to before behind = λ p least below.
    elim (cases_lt p middle) [
      | inl early ↦ before p least early
      | inr late ↦ behind p late below
    ]

pub IsNextGoal-joined : (c : Coordinate) (from middle goal : ℕ) → from ≤ middle → HasNoGoal c from middle
    → IsNextGoal c middle goal → IsNextGoal c from goal
IsNextGoal-joined c from middle goal least before next = record {
  from_on = omega (arith, next.from_on);
  below = next.below;
  goal = next.goal;
  first = HasNoGoal-joined c from middle goal before next.first;
}

module _ (low high : Coordinate) where
  -- ---- one position

  low_false : (p : ℕ) → low.is_goal (p % low.count) ≡ false → (product_coordinate low high).is_goal p ≡ false
  low_false p none = ap (λ b. b && high.is_goal (p / low.count)) none

  high_false : (p : ℕ) → high.is_goal (p / low.count) ≡ false → (product_coordinate low high).is_goal p ≡ false
  high_false p none = ap (λ b. low.is_goal (p % low.count) && b) none ∙ and-false (low.is_goal (p % low.count))

  -- between two positions of a row, where the low part has no goal
  row_false : (h a b p : ℕ) → HasNoGoal low a b → b ≤ low.count → a + low.count * h ≤ p → p < b + low.count * h
      → (product_coordinate low high).is_goal p ≡ false
  row_false h a b p none inside least below =
      let row = row_at low.count h p (omega arith) (omega arith) in
      low_false p (ap low.is_goal row.0 ∙ none (p - h * low.count) (omega arith) (omega arith))

  pair_true : (a h : ℕ) → a < low.count → IsGoal low a → IsGoal high h
      → IsGoal (product_coordinate low high) (a + low.count * h)
  pair_true a h below first second =
      ap (λ q. low.is_goal q && high.is_goal ((a + low.count * h) / low.count)) (part-low low.count a h below)
      ∙ ap (λ q. low.is_goal a && high.is_goal q) (part-high low.count a h below)
      ∙ both_true first second

  -- ---- from a position on, in its row

  module _ (from : ℕ) (at : from < low.count * high.count) where
    pub row-none-high : high.is_goal (from / low.count) ≡ false
        → HasNoGoal (product_coordinate low high) from (low.count * (from / low.count + 1))
    row-none-high none = λ p least below.
        let row = row_at low.count (from / low.count) p (omega (arith, div-add-mod from low.count)) (omega arith) in
        high_false p (ap high.is_goal row.1 ∙ none)

    pub row-goal : (a : ℕ) → IsGoal high (from / low.count) → IsNextGoal low (from % low.count) a
        → IsNextGoal (product_coordinate low high) from (a + low.count * (from / low.count))
    row-goal a goal next =
        let parts = part_below low.count high.count from at in
        record {
          from_on = omega (arith, div-add-mod from low.count, next.from_on);
          below = omega (arith, mul-add-lt (from / low.count) low.count a high.count parts.1 next.below);
          goal = pair_true a (from / low.count) next.below next.goal goal;
          first = λ p least below.
              row_false (from / low.count) (from % low.count) a p next.first (omega (arith, next.below)) (omega (arith, div-add-mod from low.count))
              below;
        }

  -- ---- from a row on

  above_row : (row p : ℕ) → low.count * row ≤ p → 0 < low.count → row ≤ p / low.count
  above_row row p least some =
      elim (cases_lt (p / low.count) row) [
        | inl less ↦ absurd (omega (arith, (div-lt_iff_lt-mul {k = low.count} {x = p} {y = row} some).0 less))
        | inr from_on ↦ from_on
      ]

  pub rows-none-high : (row : ℕ) → HasNoGoal high row high.count
      → HasNoGoal (product_coordinate low high) (low.count * row) (low.count * high.count)
  rows-none-high row none = λ p least below.
      let parts = part_below low.count high.count p below in
      high_false p (none (p / low.count) (above_row row p least (omega (arith, parts.0))) parts.1)

  pub rows-none-low : (from : ℕ) → HasNoGoal low 0 low.count
      → HasNoGoal (product_coordinate low high) from (low.count * high.count)
  rows-none-low from none = λ p least below.
      let parts = part_below low.count high.count p below in
      low_false p (none (p % low.count) (omega arith) parts.0)

  pub rows-goal : (row a b : ℕ) → IsNextGoal high row b → IsNextGoal low 0 a
      → IsNextGoal (product_coordinate low high) (low.count * row) (a + low.count * b)
  rows-goal row a b next_high next_low = record {
    from_on = omega (arith, mul-le low.count row low.count b (omega arith) next_high.from_on);
    below = omega (arith, mul-add-lt b low.count a high.count next_high.below next_low.below);
    goal = pair_true a b next_low.below next_low.goal next_high.goal;
    first = λ p least below.
        elim (cases_lt p (low.count * b)) [
          | inl early ↦
              let some : 0 < low.count = omega (arith, next_low.below) in
              let q_below : p / low.count < b = (div-lt_iff_lt-mul {k = low.count} {x = p} {y = b} some).1 (omega arith) in
              high_false p (next_high.first (p / low.count) (above_row row p least some) q_below)
          | inr late ↦ row_false b 0 a p next_low.first (omega (arith, next_low.below)) (omega arith) below
        ];
  }
