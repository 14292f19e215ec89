-- Digits whose sum is 0 modulo their base, and their numbers.
use Rattle.std.proofs.lemmas.Grind.{common_steps}
use Rattle.std.proofs.Common.{rules, ◌≡◌, ℕ, zero, suc, ◌+◌, ◌-◌, ◌*◌, ◌/◌, ◌%◌, ◌^◌, ◌<◌, ◌≤◌, List, [], ◌∷◌, ◌++◌, length, replicate, take, slice_index, refl, sym, ap, ◌∙◌, subst, arith, length-append}
use Rattle.std.specs.Prelude.{All}
use Rattle.std.proofs.lemmas.Bool.{cases_order}
use Rattle.std.proofs.lemmas.List.{get_or-replicate, length-replicate, length-take-le, take-replicate}
use Rattle.std.proofs.lemmas.List.Elements.{All-push, All-take}
use Rattle.std.proofs.lemmas.Nat.{same_from_place, mod_below, div-add-mod'}
use Rattle.std.proofs.Math.Nat.{add-mod-mod, mod-add-mod, mod_self}
use Rattle.scr_combinatorics.specs.Lists.{total}
use Rattle.scr_combinatorics.specs.Digits.{product, AreDigits, mixed_number, mixed_digits}
use Rattle.scr_combinatorics.specs.Twists.{IsTwists, twists_number, with_sum_fixed, twists_at}
use Rattle.scr_combinatorics.specs.Numbering.{IsOneToOne}
use Rattle.scr_combinatorics.proofs.Digits.{first_number-lt, first_number-at, mixed_number-injective, AreDigits-mixed_digits, mixed_number-mixed_digits, length-mixed_digits, product-replicate, AreDigits-replicate, begins_with_all, product_pos}

-- ---- all digits but the last

-- the number of the first digits is that of all where no more are read
mixed_number-take : (n base : ℕ) (ds : List ℕ)
    → mixed_number (replicate n base) (take n ds) ≡ mixed_number (replicate n base) ds
mixed_number-take zero base ds = refl
mixed_number-take (suc n) base [] = refl
mixed_number-take (suc n) base (d ∷ ds) = ap (λ r. d + base * r) (mixed_number-take n base ds)

mixed_number-append : (n base : ℕ) (ds es : List ℕ) → length ds ≡ n
    → mixed_number (replicate n base) (ds ++ es) ≡ mixed_number (replicate n base) ds
mixed_number-append zero base [] es size = refl
mixed_number-append zero base (d ∷ ds) es size = absurd (omega arith)
mixed_number-append (suc n) base [] es size = absurd (omega arith)
mixed_number-append (suc n) base (d ∷ ds) es size = ap (λ r. d + base * r) (mixed_number-append n base ds es (omega arith))

pub twists_number-lt : (n base : ℕ) (ds : List ℕ) → IsTwists n base ds → twists_number base ds < base ^ (n - 1)
twists_number-lt n base ds h = grind (arith, first_number-lt, begins_with_all, product-replicate)

-- place k but the last has digit k of the number
pub twists_number-at : (n base : ℕ) (ds : List ℕ) → IsTwists n base ds → (k : ℕ) → k < n - 1
    → slice_index ds k ≡ twists_number base ds / base ^ k % base
twists_number-at n base ds h k lt =
    let m : ℕ = length ds - 1 in
    let low : k < m = omega (arith, h.size) in
    let number : ℕ = mixed_number (replicate m base) ds in
    first_number-at (replicate m base) ds (begins_with_all m base ds (omega arith) h.below) k (omega (arith, length-replicate m base))
    ∙ ap (λ z. number / product z % slice_index (replicate m base) k) (take-replicate k m base (omega arith))
    ∙ ap (λ z. number / z % slice_index (replicate m base) k) (product-replicate k base)
    ∙ ap (λ z. number / base ^ k % z) (get_or-replicate m k base 0 low)

-- ---- the last digit

-- a list's sum is that of all but its last element, and the last
pub total-last : (n : ℕ) (ds : List ℕ) → length ds ≡ suc n → total ds ≡ total (take n ds) + slice_index ds n
total-last n [] e = absurd (omega arith)
total-last zero (d ∷ []) e = omega arith
total-last zero (d ∷ (d' ∷ ds)) e = absurd (omega arith)
total-last (suc n) (d ∷ ds) e = omega (arith, total-last n ds (omega arith))

-- the last digit that makes a sum 0 modulo b is one only
last_is_fixed : (t x y b : ℕ) → x < b → y < b → (t + x) % b ≡ 0 → (t + y) % b ≡ 0 → x ≤ y → x ≡ y
last_is_fixed t x y b lx ly ex ey le = grind (arith, same_from_place, div-add-mod')

same_last : (t x y b : ℕ) → x < b → y < b → (t + x) % b ≡ 0 → (t + y) % b ≡ 0 → x ≡ y
same_last t x y b lx ly ex ey = grind (arith, cases_order, last_is_fixed)

same_from_front : (n : ℕ) (ds es : List ℕ) → length ds ≡ suc n → length es ≡ suc n → take n ds ≡ take n es
    → slice_index ds n ≡ slice_index es n → ds ≡ es
same_from_front n [] es sd se front last = absurd (omega arith)
same_from_front n (d ∷ ds) [] sd se front last = absurd (omega arith)
same_from_front zero (d ∷ []) (e ∷ []) sd se front last = ap (λ z. z ∷ []) last
same_from_front zero (d ∷ (d' ∷ ds)) es sd se front last = absurd (omega arith)
same_from_front zero (d ∷ []) (e ∷ (e' ∷ es)) sd se front last = absurd (omega arith)
same_from_front (suc n) (d ∷ ds) (e ∷ es) sd se front last =
    grind (arith, same_from_front n ds es (omega arith) (omega arith))

-- the digits before the last one
front_digits : (m base : ℕ) (ds : List ℕ) → length ds ≡ suc m → All (λ d. d < base) ds
    → AreDigits (replicate m base) (take m ds)
front_digits m base ds size h = grind (arith, common_steps, AreDigits-replicate, length-take-le, All-take)

front_number : (m base : ℕ) (ds : List ℕ) → length ds ≡ suc m
    → twists_number base ds ≡ mixed_number (replicate m base) (take m ds)
front_number m base ds size = grind (arith, mixed_number-take)

pub twists_number-injective : (n base : ℕ) (ds es : List ℕ) → 0 < n → IsTwists n base ds → IsTwists n base es
    → twists_number base ds ≡ twists_number base es → ds ≡ es
twists_number-injective n base ds es pos p q e =
    let m : ℕ = n - 1 in
    let sd : length ds ≡ suc m = omega (arith, p.size) in
    let se : length es ≡ suc m = omega (arith, q.size) in
    let front : take m ds ≡ take m es =
    mixed_number-injective (replicate m base) (take m ds) (take m es) (front_digits m base ds sd p.below) (front_digits m base es se q.below)
    (sym (front_number m base ds sd) ∙ e ∙ front_number m base es se) in
    let t : ℕ = total (take m ds) in
    let last : slice_index ds m ≡ slice_index es m =
    same_last t (slice_index ds m) (slice_index es m) base
    (p.below m 0 (omega arith)) (q.below m 0 (omega arith))
    (ap (λ z. z % base) (sym (total-last m ds sd)) ∙ p.sum_fixed)
    (ap (λ z. z % base) (sym (total-last m es se ∙ ap (λ zs. total zs + slice_index es m) (sym front))) ∙ q.sum_fixed) in
    same_from_front m ds es sd se front last

-- ---- the digits that have a number

pub total-push : (xs : List ℕ) (d : ℕ) → total (xs ++ d ∷ []) ≡ total xs + d
total-push [] d = omega arith
total-push (x ∷ xs) d = omega (arith, total-push xs d)

-- a sum and what it lacks to the base make 0
pub completed : (t base : ℕ) → 0 < base → (t + (base - t % base) % base) % base ≡ 0
completed t base pos =
    let r : ℕ = t % base in
    let low : r < base = mod_below t base pos in
    let all : r + (base - r) ≡ base = omega arith in
    add-mod-mod t (base - r) base ∙ sym (mod-add-mod t base (base - r)) ∙ ap (λ z. z % base) all ∙ mod_self base

IsTwists-with_sum_fixed : (n base : ℕ) (ds : List ℕ) → 0 < base → length ds ≡ n → All (λ d. d < base) ds
    → IsTwists (suc n) base (with_sum_fixed base ds)
unfolding with_sum_fixed
IsTwists-with_sum_fixed n base ds pos size h =
    grind (arith, common_steps, length-append, All-push, mod_below, total-push, completed)

twists_number-with_sum_fixed : (n base : ℕ) (ds : List ℕ) → length ds ≡ n
    → twists_number base (with_sum_fixed base ds) ≡ mixed_number (replicate n base) ds
unfolding with_sum_fixed
twists_number-with_sum_fixed n base ds size = grind (arith, length-append, mixed_number-append)

pub IsTwists-twists_at : (n base number : ℕ) → 0 < n → 0 < base → IsTwists n base (twists_at n base number)
unfolding twists_at
IsTwists-twists_at n base number some pos =
    let m : ℕ = n - 1 in
    let all : suc m ≡ n = omega arith in
    let ds : List ℕ = mixed_digits (replicate m base) number in
    let own = (AreDigits-replicate m base ds).0 (AreDigits-mixed_digits (replicate m base) number (product_pos m base pos)) in
    subst (λ k. IsTwists k base (with_sum_fixed base ds)) all (IsTwists-with_sum_fixed m base ds pos own.0 own.1)

pub twists_number-twists_at : (n base number : ℕ) → 0 < base → number < base ^ (n - 1)
    → twists_number base (twists_at n base number) ≡ number
unfolding twists_at
twists_number-twists_at n base number pos lt =
    let m : ℕ = n - 1 in
    let ds : List ℕ = mixed_digits (replicate m base) number in
    twists_number-with_sum_fixed m base ds (length-mixed_digits (replicate m base) number ∙ length-replicate m base)
    ∙ mixed_number-mixed_digits (replicate m base) number (product_pos m base pos) (omega (arith, lt, product-replicate m base))

pub twists_at-number : (n base : ℕ) (ds : List ℕ) → 0 < n → 0 < base → IsTwists n base ds
    → twists_at n base (twists_number base ds) ≡ ds
twists_at-number n base ds some pos h =
    search (arith, rules, twists_number-injective, IsTwists-twists_at, twists_number-twists_at, twists_number-lt)

-- they are numbered by the numbers below base ^ (n - 1)
pub twists_one_to_one : (n base : ℕ) → 0 < n → 0 < base
    → IsOneToOne (base ^ (n - 1)) (twists_at n base) (twists_number base) (IsTwists n base)
twists_one_to_one n base some pos =
    search (arith, rules, IsTwists-twists_at, twists_number-lt, twists_number-twists_at, twists_at-number)
