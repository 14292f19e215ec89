-- Why turns lead from positions to positions: laws of this crate's coordinates.
use Rattle.std.proofs.Common.{◌≡◌, ℕ, zero, suc, ◌+◌, ◌*◌, ◌/◌, ◌%◌, ◌<◌, Bool, true, false, cond, slice_index, Option, Some, None, refl, subst, arith}
use Rattle.std.specs.Prelude.{nat_lt}
use Rattle.std.proofs.lemmas.Bool.{ltb-true}
use Rattle.std.proofs.lemmas.Nat.{mul-add-lt, mod_below}
use Rattle.std.proofs.lemmas.Option.{same_Some}
use Rattle.std.proofs.Math.Nat.{div-lt_iff_lt-mul}
use Rattle.scr_positions.specs.Coordinates.{Coordinate, StaysBelow}
use Rattle.scr_positions.specs.Products.{side_by_side, product_coordinate}
use Rattle.scr_positions.specs.Moves.{Moves, moves_coordinate}

-- ---- move tables

below_by : (count n q : ℕ) (b : Bool) → nat_lt n count ≡ b → cond b (Some n) None ≡ Some q → q < count
below_by count n q true e h = subst (λ k. k < count) (same_Some n q h) (ltb-true n count e)
below_by count n q false e h = absurd (cc)

pub StaysBelow-moves : (m : Moves) → StaysBelow (moves_coordinate m)
StaysBelow-moves m p t q at turn e =
    let target = slice_index m.targets (t * m.count + p) in below_by m.count target q (nat_lt target m.count) refl e

-- ---- products

paired_below : (n m q : ℕ) (low high : Option ℕ) → ((a : ℕ) → low ≡ Some a → a < n) → ((b : ℕ) → high ≡ Some b → b < m)
    → side_by_side n low high ≡ Some q → q < n * m
paired_below n m q None high f g e = absurd (cc)
paired_below n m q (Some a) None f g e = absurd (cc)
paired_below n m q (Some a) (Some b) f g e =
    let same : a + n * b ≡ q = same_Some (a + n * b) q e in
    omega (arith, mul-add-lt b n a m (g b refl) (f a refl))

-- the parts of a position
pub part_below : (n m p : ℕ) → p < n * m → (p % n < n) × (p / n < m)
part_below zero m p lt = absurd (omega arith)
part_below (suc n) m p lt =
    (mod_below p (suc n) (omega arith), (div-lt_iff_lt-mul {k = suc n} {x = p} {y = m} (omega arith)).1 (omega arith))

pub StaysBelow-product : (low high : Coordinate) → high.turns ≡ low.turns → StaysBelow low → StaysBelow high
    → StaysBelow (product_coordinate low high)
StaysBelow-product low high same f g p t q at turn e =
    let parts = part_below low.count high.count p at in
    let turn' : t < high.turns = omega arith in
    paired_below low.count high.count q (low.after (p % low.count) t) (high.after (p / low.count) t)
    (λ a h. f (p % low.count) t a parts.0 turn h) (λ b h. g (p / low.count) t b parts.1 turn' h) e
