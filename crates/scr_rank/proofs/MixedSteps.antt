-- The steps of the loops over digits and their bases, as facts about lists.
use Rattle.std.proofs.Common.{◌≡◌, ℕ, zero, suc, ◌+◌, ◌-◌, ◌*◌, ◌<◌, ◌≤◌, List, [], ◌∷◌, All, length, drop, slice_index, refl, ap, arith}
use Rattle.std.proofs.lemmas.List.{at_drop_more, drop_more}
use Rattle.std.proofs.lemmas.List.Elements.{All-head, All-tail}
use Rattle.std.proofs.Math.Nat.{mul_comm, mul-le-mul_right}
use Rattle.scr_combinatorics.specs.Digits.{product, AreDigits, mixed_number}
use Rattle.scr_combinatorics.proofs.Digits.{BeginsWithDigits, begins_with_digits, first_number-lt, factor_pos}

-- each base divides the product: what comes from a place on is no larger than all, and every base is positive
pub product-drop : (bases : List ℕ) (place : ℕ) → 0 < product bases
    → (0 < product (drop place bases)) × (product (drop place bases) ≤ product bases)
product-drop bases zero pos = (pos, omega arith)
product-drop [] (suc place) pos = (pos, omega arith)
product-drop (b ∷ bs) (suc place) pos =
    let both = factor_pos b (product bs) pos in
    let rest = product-drop bs place both.1 in
    let one : 1 ≤ b = omega (arith, both.0) in
    (rest.0, omega (arith, rest.1, mul-le-mul_right (product bs) one))

pub base-pos : (bases : List ℕ) (place : ℕ) → 0 < product bases → place < length bases → 0 < slice_index bases place
base-pos [] place pos lt = absurd (omega arith)
base-pos (b ∷ bs) zero pos lt = (factor_pos b (product bs) pos).0
base-pos (b ∷ bs) (suc place) pos lt = base-pos bs place (factor_pos b (product bs) pos).1 (omega arith)

pub product-pos : (bases : List ℕ) → All (λ b. 1 ≤ b) bases → 0 < product bases
product-pos [] h = omega arith
product-pos (b ∷ bs) h =
    let one : 1 ≤ b = All-head (λ x. 1 ≤ x) b bs h in
    omega (arith, product-pos bs (All-tail (λ x. 1 ≤ x) b bs h), mul-le-mul_right (product bs) one)

pub length-digits : (bases ds : List ℕ) → AreDigits bases ds → length ds ≡ length bases
length-digits [] [] h = refl
length-digits (b ∷ bs) (d ∷ ds) h = ap suc (length-digits bs ds h.1)
length-digits bases ds h = absurd h

BeginsWithDigits-drop : (bases ds : List ℕ) (place : ℕ) → BeginsWithDigits bases ds
    → BeginsWithDigits (drop place bases) (drop place ds)
BeginsWithDigits-drop bases ds zero h = h
BeginsWithDigits-drop [] [] (suc place) h = h
BeginsWithDigits-drop [] (d ∷ ds) (suc place) h = h
BeginsWithDigits-drop (b ∷ bs) [] (suc place) h = absurd h
BeginsWithDigits-drop (b ∷ bs) (d ∷ ds) (suc place) h = BeginsWithDigits-drop bs ds place h.1

-- ---- products and numbers from a place on

pub product_more : (bases : List ℕ) (place count : ℕ) → 0 < place → place ≤ length bases
    → count ≡ product (drop place bases) → count * slice_index bases (place - 1) ≡ product (drop (place - 1) bases)
product_more bases place count pos le e =
    let q : ℕ = place - 1 in
    let back : q + 1 ≡ place = omega arith in
    let b : ℕ = slice_index bases q in
    cc (mul_comm (product (drop (q + 1) bases)) b, at_drop_more product bases q 0 (omega arith))

pub number_more : (bases ds : List ℕ) (place number : ℕ) → length bases ≤ length ds → 0 < place → place ≤ length bases
    → number ≡ mixed_number (drop place bases) (drop place ds)
    → number * slice_index bases (place - 1) + slice_index ds (place - 1) ≡ mixed_number (drop (place - 1) bases) (drop (place - 1) ds)
number_more bases ds place number size pos le e = grind (arith, drop_more, mul_comm)

pub number_low : (bases ds : List ℕ) (place : ℕ) → 0 < product bases → BeginsWithDigits bases ds
    → mixed_number (drop place bases) (drop place ds) < product bases
number_low bases ds place pos h = grind (arith, product-drop, first_number-lt, BeginsWithDigits-drop)

-- one digit more
pub record IsRankedBy (bases ds : List ℕ) (place next : ℕ) : Type 0 where
  pub counted : next ≡ mixed_number (drop (place - 1) bases) (drop (place - 1) ds)
  pub low : next < product bases

pub ranked_by : (bases ds : List ℕ) (place number : ℕ) → 0 < product bases → AreDigits bases ds → 0 < place
    → place ≤ length bases → number ≡ mixed_number (drop place bases) (drop place ds)
    → IsRankedBy bases ds place (number * slice_index bases (place - 1) + slice_index ds (place - 1))
ranked_by bases ds place number some valid pos le e =
    grind (arith, number_more, length-digits, number_low, begins_with_digits)
