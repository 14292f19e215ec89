-- Digits, each below a base of its own, and their numbers.
use Rattle.std.proofs.Common.{rules, ◌≡◌, ℕ, zero, suc, ◌+◌, ◌*◌, ◌/◌, ◌%◌, ◌^◌, ◌<◌, ◌≤◌, List, [], ◌∷◌, length, replicate, take, slice_index, refl, sym, ap, ◌∙◌, arith}
use Rattle.std.specs.Prelude.{All, ◌↔◌}
use Rattle.std.proofs.lemmas.List.Elements.{All-nil, All-cons, All-head, All-tail}
use Rattle.std.proofs.lemmas.Nat.{same_from_place, div_below, mod_below, div-add-mod', mod-mul-add, div-mul-add}
use Rattle.std.proofs.Math.Nat.{pow-zero, pow-suc, mul-le-mul_right, mul_comm, div-div-eq-div-mul, div-one}
use Rattle.scr_combinatorics.specs.Digits.{product, AreDigits, mixed_number, mixed_digits}
use Rattle.scr_combinatorics.specs.Numbering.{IsOneToOne}

-- ---- one digit more

-- d + b * r stays below b * p where r is below p
digit_below : (d b r p : ℕ) → d < b → r < p → d + b * r < b * p
digit_below d b r p ld lr = let le : suc r ≤ p = omega arith in omega (arith, mul-le-mul_right b le, mul_comm b r, mul_comm b p)

-- two such numbers are equal only digit by digit
same_digit : (d e b r s : ℕ) → d < b → e < b → d + b * r ≡ e + b * s → (d ≡ e) × (r ≡ s)
same_digit d e b r s ld le h =
    let both = same_from_place r d s e b ld le (omega (arith, mul_comm b r, mul_comm b s)) in
    (both.1, both.0)

-- a factor of a number that isn't 0
pub factor_pos : (a b : ℕ) → 0 < a * b → (0 < a) × (0 < b)
factor_pos zero b h = absurd (omega arith)
factor_pos (suc a) zero h = absurd (omega arith)
factor_pos (suc a) (suc b) h = (omega arith, omega arith)

-- ---- the number of digits

-- a list that begins with a digit for each base; what comes after them isn't read
abbrev pub BeginsWithDigits : List ℕ → List ℕ → Type 0
BeginsWithDigits [] ds = Unit {0}
BeginsWithDigits (b ∷ bs) [] = ⊥
BeginsWithDigits (b ∷ bs) (d ∷ ds) = (d < b) × BeginsWithDigits bs ds

pub begins_with_digits : (bases ds : List ℕ) → AreDigits bases ds → BeginsWithDigits bases ds
begins_with_digits [] ds h = tt
begins_with_digits (b ∷ bs) [] h = absurd h
begins_with_digits (b ∷ bs) (d ∷ ds) h = (h.0, begins_with_digits bs ds h.1)

pub first_number-lt : (bases ds : List ℕ) → BeginsWithDigits bases ds → mixed_number bases ds < product bases
first_number-lt [] ds h = omega arith
first_number-lt (b ∷ bs) [] h = absurd h
first_number-lt (b ∷ bs) (d ∷ ds) h = digit_below d b (mixed_number bs ds) (product bs) h.0 (first_number-lt bs ds h.1)

-- place k has digit k: what is left of the number after the bases before it, modulo its own base
pub first_number-at : (bases ds : List ℕ) → BeginsWithDigits bases ds → (k : ℕ) → k < length bases
    → slice_index ds k ≡ mixed_number bases ds / product (take k bases) % slice_index bases k
first_number-at [] ds h k lt = absurd (omega arith)
first_number-at (b ∷ bs) [] h k lt = absurd h
first_number-at (b ∷ bs) (d ∷ ds) h zero lt =
    let r : ℕ = mixed_number bs ds in
    sym (ap (λ z. z % b) (div-one (d + b * r)) ∙ ap (λ z. z % b) (omega (arith, mul_comm b r)) ∙ mod-mul-add r b d h.0)
first_number-at (b ∷ bs) (d ∷ ds) h (suc k) lt =
    let r : ℕ = mixed_number bs ds in
    let c : ℕ = slice_index bs k in
    let p : ℕ = product (take k bs) in
    first_number-at bs ds h.1 k (omega arith)
    ∙ ap (λ z. z / p % c) (sym (ap (λ z. z / b) (omega (arith, mul_comm b r)) ∙ div-mul-add r b d h.0))
    ∙ ap (λ z. z % c) (div-div-eq-div-mul (d + b * r) b p)

pub mixed_number-lt : (bases ds : List ℕ) → AreDigits bases ds → mixed_number bases ds < product bases
mixed_number-lt bases ds h = first_number-lt bases ds (begins_with_digits bases ds h)

pub mixed_number-at : (bases ds : List ℕ) → AreDigits bases ds → (k : ℕ) → k < length bases
    → slice_index ds k ≡ mixed_number bases ds / product (take k bases) % slice_index bases k
mixed_number-at bases ds h = first_number-at bases ds (begins_with_digits bases ds h)

pub mixed_number-injective : (bases ds es : List ℕ) → AreDigits bases ds → AreDigits bases es
    → mixed_number bases ds ≡ mixed_number bases es → ds ≡ es
mixed_number-injective [] [] [] p q e = refl
mixed_number-injective [] (d ∷ ds) es p q e = absurd p
mixed_number-injective [] [] (y ∷ es) p q e = absurd q
mixed_number-injective (b ∷ bs) [] es p q e = absurd p
mixed_number-injective (b ∷ bs) (d ∷ ds) [] p q e = absurd q
mixed_number-injective (b ∷ bs) (d ∷ ds) (y ∷ es) p q e =
    let both = same_digit d y b (mixed_number bs ds) (mixed_number bs es) p.0 q.0 e in
    ap (λ z. z ∷ ds) both.0 ∙ ap (λ zs. y ∷ zs) (mixed_number-injective bs ds es p.1 q.1 both.1)

-- ---- the digits of a number

pub length-mixed_digits : (bases : List ℕ) (r : ℕ) → length (mixed_digits bases r) ≡ length bases
length-mixed_digits [] r = refl
length-mixed_digits (b ∷ bs) r = ap suc (length-mixed_digits bs (r / b))

pub AreDigits-mixed_digits : (bases : List ℕ) (r : ℕ) → 0 < product bases → AreDigits bases (mixed_digits bases r)
AreDigits-mixed_digits [] r pos = tt
AreDigits-mixed_digits (b ∷ bs) r pos = grind (arith, factor_pos, mod_below, AreDigits-mixed_digits bs)

pub mixed_number-mixed_digits : (bases : List ℕ) (r : ℕ) → 0 < product bases → r < product bases
    → mixed_number bases (mixed_digits bases r) ≡ r
mixed_number-mixed_digits [] r pos lt = omega arith
mixed_number-mixed_digits (b ∷ bs) r pos lt =
    grind (arith, factor_pos, div_below, mul_comm, div-add-mod', mixed_number-mixed_digits bs)

pub mixed_digits-mixed_number : (bases ds : List ℕ) → 0 < product bases → AreDigits bases ds
    → mixed_digits bases (mixed_number bases ds) ≡ ds
mixed_digits-mixed_number bases ds pos h =
    let r : ℕ = mixed_number bases ds in
    mixed_number-injective bases (mixed_digits bases r) ds (AreDigits-mixed_digits bases r pos) h
    (mixed_number-mixed_digits bases r pos (mixed_number-lt bases ds h))

-- lists of digits are numbered by the numbers below the product of the bases
pub digits_one_to_one : (bases : List ℕ) → 0 < product bases
    → IsOneToOne (product bases) (mixed_digits bases) (mixed_number bases) (AreDigits bases)
digits_one_to_one bases pos =
    grind (arith, AreDigits-mixed_digits, mixed_number-lt, mixed_number-mixed_digits, mixed_digits-mixed_number)

-- ---- one base

pub product-replicate : (n base : ℕ) → product (replicate n base) ≡ base ^ n
product-replicate zero base = sym (pow-zero base)
product-replicate (suc n) base = grind (arith, mul_comm, pow-suc, product-replicate n base)

pub product_pos : (n base : ℕ) → 0 < base → 0 < product (replicate n base)
product_pos zero base pos = omega arith
product_pos (suc n) base pos = search (arith, rules, mul-le-mul_right, product_pos n base pos)

-- n digits in one base are n numbers below it
pub AreDigits-from_all : (base : ℕ) (ds : List ℕ) → All (λ d. d < base) ds → AreDigits (replicate (length ds) base) ds
AreDigits-from_all base [] h = tt
AreDigits-from_all base (d ∷ ds) h = search (arith, rules, All-head, All-tail, AreDigits-from_all base ds)

all_from_AreDigits : (n base : ℕ) (ds : List ℕ) → AreDigits (replicate n base) ds
    → (length ds ≡ n) × All (λ d. d < base) ds
all_from_AreDigits zero base [] h = (refl, All-nil (λ z. z < base))
all_from_AreDigits zero base (d ∷ ds) h = absurd h
all_from_AreDigits (suc n) base [] h = absurd h
all_from_AreDigits (suc n) base (d ∷ ds) h = grind (arith, All-cons, all_from_AreDigits n base ds h.1)

pub AreDigits-replicate : (n base : ℕ) (ds : List ℕ)
    → AreDigits (replicate n base) ds ↔ ((length ds ≡ n) × All (λ d. d < base) ds)
AreDigits-replicate n base ds = grind (arith, all_from_AreDigits, AreDigits-from_all)

-- so are the first n of more
pub begins_with_all : (n base : ℕ) (ds : List ℕ) → n ≤ length ds → All (λ d. d < base) ds
    → BeginsWithDigits (replicate n base) ds
begins_with_all zero base ds le h = tt
begins_with_all (suc n) base [] le h = absurd (omega arith)
begins_with_all (suc n) base (d ∷ ds) le h =
    (All-head (λ z. z < base) d ds h, begins_with_all n base ds (omega arith) (All-tail (λ z. z < base) d ds h))

-- the lists of n numbers below a base are numbered by the numbers below base ^ n
pub lists_one_to_one : (n base : ℕ) → 0 < base
    → IsOneToOne (base ^ n) (mixed_digits (replicate n base)) (mixed_number (replicate n base)) (λ ds. (length ds ≡ n) × All (λ d. d < base) ds)
lists_one_to_one n base pos =
    let same = product-replicate n base in
    let own = digits_one_to_one (replicate n base) (product_pos n base pos) in
    record {
      valid = λ i lt. (AreDigits-replicate n base _).0 (own.valid i (omega (arith, lt, same)));
      below = λ ds h. omega (arith, own.below ds ((AreDigits-replicate n base ds).1 h), same);
      number_again = λ i lt. own.number_again i (omega (arith, lt, same));
      state_again = λ ds h. own.state_again ds ((AreDigits-replicate n base ds).1 h);
    }

-- ---- what holds of the digits written out holds of each list of digits

pub by_two_digits : (P : List ℕ → Type 0) (a b : ℕ) → ((d e : ℕ) → d < a → e < b → P (d ∷ e ∷ [])) → (ds : List ℕ)
    → AreDigits (a ∷ b ∷ []) ds → P ds
by_two_digits P a b holds [] h = absurd h
by_two_digits P a b holds (d ∷ []) h = absurd h.1
by_two_digits P a b holds (d ∷ (e ∷ [])) h = holds d e h.0 h.1.0
by_two_digits P a b holds (d ∷ (e ∷ (x ∷ xs))) h = absurd h.1.1

pub by_three_digits : (P : List ℕ → Type 0) (a b c : ℕ) → ((d e f : ℕ) → d < a → e < b → f < c → P (d ∷ e ∷ f ∷ []))
    → (ds : List ℕ) → AreDigits (a ∷ b ∷ c ∷ []) ds → P ds
by_three_digits P a b c holds [] h = absurd h
by_three_digits P a b c holds (d ∷ ds) h = grind (arith, by_two_digits)

pub by_four_digits : (P : List ℕ → Type 0) (a b c m : ℕ)
    → ((d e f g : ℕ) → d < a → e < b → f < c → g < m → P (d ∷ e ∷ f ∷ g ∷ [])) → (ds : List ℕ)
    → AreDigits (a ∷ b ∷ c ∷ m ∷ []) ds → P ds
by_four_digits P a b c m holds [] h = absurd h
by_four_digits P a b c m holds (d ∷ ds) h = grind (arith, by_three_digits)
