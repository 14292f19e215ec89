-- Sets of turns in bits.
use Rattle.std.proofs.Common.{◌≡◌, ◌≢◌, ◌⊎◌, ℕ, zero, suc, ◌+◌, ◌-◌, ◌*◌, ◌%◌, ◌^◌, ◌<◌, ◌≤◌, Bool, true, false, cond, List, [], ◌∷◌, inl, inr, refl, sym, ap, ◌∙◌, arith, min, w32, ne_eqb, eq-eqb}
use Rattle.std.specs.Prelude.{filter, ◌&&◌, ◌||◌, ◌==◌, not}
use Rattle.std.specs.Int.{bit_at, trailing_zeros}
use Rattle.std.specs.Int.Bits.{bit_and, bit_or}
use Rattle.std.proofs.Math.Bool.{and-false, and-true, or-false, or-true}
use Rattle.std.proofs.Math.Nat.{mod-le}
use Rattle.std.proofs.Math.Pow.{pow-lt}
use Rattle.std.proofs.lemmas.Bool.{cases_eq, cases_lt}
use Rattle.std.proofs.lemmas.Nat.Bits.{bit_at-lt, bit_at_and, bit_at_set_same, bit_at_set_other, bit_at_clear_same, bit_at_clear_other, bit_at-trailing_zeros, bit_at_above, bit_at-zero, bit_at_ones}
use Rattle.scr_combinatorics.specs.Lists.{numbers_from}
use Rattle.scr_search.specs.TurnSets.{contains_turn, turns_in}

-- ---- one bit

both_ones : (x y : ℕ) → x < 2 → y < 2 → (min x y == 1) ≡ ((x == 1) && (y == 1))
both_ones x y h0 h1 = grind arith

pub has_turn-and : (a b t : ℕ) → contains_turn (bit_and a b) t ≡ (contains_turn a t && contains_turn b t)
has_turn-and a b t = ap (λ x. x == 1) (bit_at_and a b t) ∙ both_ones (bit_at a t) (bit_at b t) (bit_at-lt a t) (bit_at-lt b t)

pub has_turn-with : (bits turn t : ℕ) → turn < 18
    → contains_turn (bit_or bits (1 * 2 ^ turn % 2 ^ 32)) t ≡ (contains_turn bits t || (t == turn))
has_turn-with bits turn t lt =
    elim (cases_eq t turn) [
      | inl same ↦
          cc (bit_at_set_same w32 bits turn (omega arith), eq-eqb t turn same, or-true (contains_turn bits t))
      | inr other ↦
          grind (arith, bit_at_set_other w32 bits turn (omega arith) t other, or-false (contains_turn bits t))
    ]

-- ---- the lowest bit

keep_by : {X : Type 0} (b c : Bool) (x : X) (xs ys : List X) → b ≡ c → xs ≡ ys → cond b (x ∷ xs) xs ≡ cond c (x ∷ ys) ys
keep_by b c x xs ys e f = ap (λ d. cond d (x ∷ xs) xs) e ∙ ap (λ zs. cond c (x ∷ zs) zs) f

agree_from : (p q : ℕ → Bool) (low n : ℕ) → ((k : ℕ) → low ≤ k → k < low + n → p k ≡ q k)
    → filter p (numbers_from low n) ≡ filter q (numbers_from low n)
agree_from p q low zero h = refl
agree_from p q low (suc n) h =
    keep_by (p low) (q low) low (filter p (numbers_from (suc low) n)) (filter q (numbers_from (suc low) n)) (h low (omega arith) (omega arith))
    (agree_from p q (suc low) n (λ k le lt. h k (omega arith) (omega arith)))

first_from : (p q : ℕ → Bool) (low n t : ℕ) → low ≤ t → t < low + n → p t ≡ true → q t ≡ false
    → ((k : ℕ) → k < t → p k ≡ false) → ((k : ℕ) → k < low + n → k ≢ t → q k ≡ p k)
    → filter p (numbers_from low n) ≡ t ∷ filter q (numbers_from low n)
first_from p q low zero t le lt a b before same = absurd (omega arith)
first_from p q low (suc n) t le lt a b before same =
    elim (cases_eq low t) [
      | inl here ↦
          grind (arith, agree_from)
      | inr other ↦
          let none : p low ≡ false = before low (omega arith) in
          let rest = first_from p q (suc low) n t (omega arith) (omega arith) a b before (λ k below ne. same k (omega arith) ne) in
          grind arith
    ]

zero_bit : (x : ℕ) → x ≡ 0 → (x == 1) ≡ false
zero_bit x e = ap (λ y. y == 1) e

-- the lowest bit of a number is that of a turn
pub lowest-lt : (bits : ℕ) → 0 < bits → bits < 2 ^ 18 → trailing_zeros w32 bits < 18
lowest-lt bits pos lt =
    let low = bit_at-trailing_zeros w32 bits pos (omega arith) in
    elim (cases_lt (trailing_zeros w32 bits) 18) [
      | inl below ↦ below
      | inr above ↦ absurd (omega (arith, low.1, bit_at_above bits 18 (trailing_zeros w32 bits) lt above))
    ]

pub lowest-in : (bits : ℕ) → 0 < bits → bits < 2 ^ 18 → contains_turn bits (trailing_zeros w32 bits) ≡ true
lowest-in bits pos lt = ap (λ x. x == 1) (bit_at-trailing_zeros w32 bits pos (omega arith)).1

-- the set without it
pub has_turn-without : (bits t : ℕ) → 0 < bits → bits < 2 ^ 18
    → contains_turn (bit_and bits (2 ^ 32 - 1 - 1 * 2 ^ trailing_zeros w32 bits % 2 ^ 32)) t ≡ (contains_turn bits t && not (t == trailing_zeros w32 bits))
has_turn-without bits t pos lt =
    let low : ℕ = trailing_zeros w32 bits in
    let few : low < 18 = lowest-lt bits pos lt in
    let rest : ℕ = bit_and bits (2 ^ 32 - 1 - 1 * 2 ^ low % 2 ^ 32) in
    elim (cases_eq t low) [
      | inl same ↦
          ap (contains_turn rest) same ∙ zero_bit (bit_at rest low) (bit_at_clear_same w32 bits low (omega (arith, few)))
          ∙ sym (ap (λ b. contains_turn bits t && not b) (eq-eqb t low same) ∙ and-false (contains_turn bits t))
      | inr other ↦
          without t other (cases_lt t 32) ∙ sym (ap (λ b. contains_turn bits t && not b) (ne_eqb t low other) ∙ and-true (contains_turn bits t))
    ]
  where
    without : (u : ℕ) → u ≢ trailing_zeros w32 bits → (u < 32) ⊎ (32 ≤ u)
        → contains_turn (bit_and bits (2 ^ 32 - 1 - 1 * 2 ^ trailing_zeros w32 bits % 2 ^ 32)) u ≡ contains_turn bits u
    without u other (inl near) =
        ap (λ x. x == 1) (bit_at_clear_other w32 bits (trailing_zeros w32 bits) (omega (arith, lowest-lt bits pos lt)) u near other)
    without u other (inr far) =
        let none : contains_turn bits u ≡ false = zero_bit (bit_at bits u) (bit_at_above bits 18 u lt (omega (arith, far))) in
        has_turn-and bits (2 ^ 32 - 1 - 1 * 2 ^ trailing_zeros w32 bits % 2 ^ 32) u
        ∙ ap (λ b. b && contains_turn (2 ^ 32 - 1 - 1 * 2 ^ trailing_zeros w32 bits % 2 ^ 32) u) none ∙ sym none

-- which is the first; the others are left where the bit is cleared
pub turns_in-lowest : (bits : ℕ) → 0 < bits → bits < 2 ^ 18
    → turns_in bits ≡ trailing_zeros w32 bits ∷ turns_in (bit_and bits (2 ^ 32 - 1 - 1 * 2 ^ trailing_zeros w32 bits % 2 ^ 32))
unfolding turns_in
turns_in-lowest bits pos lt =
    let t : ℕ = trailing_zeros w32 bits in
    let low = bit_at-trailing_zeros w32 bits pos (omega arith) in
    let below : t < 18 = lowest-lt bits pos lt in
    let rest = bit_and bits (2 ^ 32 - 1 - 1 * 2 ^ t % 2 ^ 32) in
    first_from (contains_turn bits) (contains_turn rest) 0 18 t (omega arith) (omega arith) (ap (λ x. x == 1) low.1)
    (zero_bit (bit_at rest t) (bit_at_clear_same w32 bits t (omega arith)))
    (λ k before. zero_bit (bit_at bits k) (low.2 k before))
    (λ k under other. ap (λ x. x == 1) (bit_at_clear_other w32 bits t (omega arith) k (omega arith) other))

none_from : (low n : ℕ) → filter (contains_turn 0) (numbers_from low n) ≡ []
none_from low zero = refl
none_from low (suc n) = grind (arith, zero_bit, bit_at-zero, none_from (suc low) n)

pub turns_in-none : turns_in 0 ≡ []
unfolding turns_in
turns_in-none = none_from 0 18

pub has_turn-all : (t : ℕ) → t < 18 → contains_turn (2 ^ 18 - 1) t ≡ true
has_turn-all t lt = ap (λ x. x == 1) (bit_at_ones 18 t lt)

pub power_below : (turn : ℕ) → turn < 18 → 1 * 2 ^ turn % 2 ^ 32 < 2 ^ 18
power_below turn lt = grind (arith, pow-lt, mod-le)
