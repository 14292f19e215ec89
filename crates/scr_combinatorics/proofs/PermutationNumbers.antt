-- The numbers of permutations.
use Rattle.std.proofs.Common.{rules, ◌≡◌, ℕ, zero, suc, ◌+◌, ◌-◌, ◌*◌, ◌/◌, ◌%◌, ◌<◌, ◌≤◌, inl, inr, eqb, ltb, List, [], ◌∷◌, map, length, refl, sym, ap, ◌∙◌, arith}
use Rattle.std.proofs.lemmas.Bool.{cases_order}
use Rattle.std.proofs.lemmas.Bool.Decides.{nat_tests}
use Rattle.std.proofs.lemmas.List.{length-map}
use Rattle.std.proofs.lemmas.Nat.{div_below, mod_below, div-add-mod'}
use Rattle.std.proofs.Math.Nat.{mul-le-mul_right}
use Rattle.scr_combinatorics.specs.Lists.{occurrences, lesser_count, IsRearranged, ComesBefore}
use Rattle.scr_combinatorics.specs.Permutations.{IsPermutation, factorial, permutation_number, nth_except, permutation_at}
use Rattle.scr_combinatorics.specs.Numbering.{IsOneToOne}
use Rattle.scr_combinatorics.proofs.Counts.{one_if, lesser_count-rearranged, lesser_count-suc, lesser_count-le_length, lesser_count-mono, occurrences-here, length-rearranged, one_if-same, one_if-other, one_if-ge}
use Rattle.scr_combinatorics.proofs.PermutationLaws.{lesser_count-permutation, IsRearranged-permutations}
use Rattle.scr_combinatorics.proofs.Orders.{same_from_order}

pub factorial-pos : (n : ℕ) → 0 < factorial n
factorial-pos zero = omega arith
factorial-pos (suc n) = omega (arith, factorial-pos n)

-- the numbers of lists of n are below n!
pub permutation_number-lt : (xs : List ℕ) → permutation_number xs < factorial (length xs)
permutation_number-lt [] = omega arith
permutation_number-lt (x ∷ xs) = grind (arith, mul-le-mul_right, lesser_count-le_length, permutation_number-lt xs)

-- ---- the order

-- the rests of rearranged lists that begin alike
IsRearranged-tail : (x y : ℕ) (xs ys : List ℕ) → x ≡ y → IsRearranged (x ∷ xs) (y ∷ ys) → IsRearranged xs ys
IsRearranged-tail x y xs ys e same k = omega (arith, same k, ap (λ z. one_if (eqb z k)) e)

-- the first element's count rises with the element
lesser_count-rises : (x y : ℕ) (xs ys : List ℕ) → x < y → IsRearranged (x ∷ xs) (y ∷ ys)
    → lesser_count x xs < lesser_count y ys
lesser_count-rises x y xs ys lt same =
    let d : ℕ = y - suc x in
    let e : suc x + d ≡ y = omega arith in
    omega (
      arith,
      one_if-ge x x (omega arith),
      one_if-ge y y (omega arith),
      lesser_count-rearranged (x ∷ xs) (y ∷ ys) same y,
      lesser_count-suc x (x ∷ xs),
      occurrences-here x xs,
      lesser_count-mono (suc x) d (x ∷ xs),
      ap (λ z. lesser_count z (x ∷ xs)) e,
    )

-- of two rearrangements, the one that comes first has the lower number
pub permutation_number-order : (xs ys : List ℕ) → IsRearranged xs ys → ComesBefore xs ys
    → permutation_number xs < permutation_number ys
permutation_number-order [] ys same before = absurd before
permutation_number-order (x ∷ xs) [] same before = absurd before
permutation_number-order (x ∷ xs) (y ∷ ys) same (inl lt) =
    let f : ℕ = factorial (length xs) in
    let size : length xs ≡ length ys = omega (arith, length-rearranged (x ∷ xs) (y ∷ ys) same) in
    omega (
      arith,
      permutation_number-lt xs,
      ap (λ n. lesser_count y ys * factorial n) size,
      mul-le-mul_right f (lesser_count-rises x y xs ys lt same),
    )
permutation_number-order (x ∷ xs) (y ∷ ys) same (inr both) =
    let rest : IsRearranged xs ys = IsRearranged-tail x y xs ys both.0 same in
    omega (
      arith,
      permutation_number-order xs ys rest both.1,
      ap (λ z. lesser_count z xs * factorial (length xs)) both.0,
      ap (λ c. c * factorial (length xs)) (lesser_count-rearranged xs ys rest y),
      ap (λ n. lesser_count y ys * factorial n) (length-rearranged xs ys rest),
    )

-- different permutations have different numbers
pub permutation_number-injective : (n : ℕ) (xs ys : List ℕ) → IsPermutation n xs → IsPermutation n ys
    → permutation_number xs ≡ permutation_number ys → xs ≡ ys
permutation_number-injective n xs ys p q e =
    same_from_order (IsPermutation n) permutation_number
    (λ us vs pu pv before. permutation_number-order us vs (IsRearranged-permutations n us vs pu pv) before)
    xs ys (p.size ∙ sym q.size) p q e

-- ---- a list over which the numbers from d on are nth_except by one, to make room for d

pub nth_except-below : (d x : ℕ) → x < d → nth_except d x ≡ x
nth_except-below d x h = grind (arith, nat_tests)

pub nth_except-above : (d x : ℕ) → d ≤ x → nth_except d x ≡ suc x
nth_except-above d x h = grind (arith, nat_tests)

one_if-nth_except_lt : (d x y : ℕ) → one_if (ltb (nth_except d x) (nth_except d y)) ≡ one_if (ltb x y)
one_if-nth_except_lt d x y = grind (arith, nat_tests)

one_if-nth_except_lt_self : (d x : ℕ) → one_if (ltb (nth_except d x) d) ≡ one_if (ltb x d)
one_if-nth_except_lt_self d x = grind (arith, nat_tests)

one_if-nth_except_low : (d x k : ℕ) → k < d → one_if (eqb (nth_except d x) k) ≡ one_if (eqb x k)
one_if-nth_except_low d x k h = grind (arith, nat_tests)

one_if-nth_except_self : (d x : ℕ) → one_if (eqb (nth_except d x) d) ≡ 0
one_if-nth_except_self d x = grind (arith, nat_tests)

one_if-nth_except_high : (d x k : ℕ) → d ≤ k → one_if (eqb (nth_except d x) (suc k)) ≡ one_if (eqb x k)
one_if-nth_except_high d x k h = grind (arith, nat_tests)

lesser_count-nth_except : (d y : ℕ) (xs : List ℕ)
    → lesser_count (nth_except d y) (map (nth_except d) xs) ≡ lesser_count y xs
lesser_count-nth_except d y [] = refl
lesser_count-nth_except d y (x ∷ xs) = omega (arith, one_if-nth_except_lt d x y, lesser_count-nth_except d y xs)

lesser_count-nth_except_self : (d : ℕ) (xs : List ℕ) → lesser_count d (map (nth_except d) xs) ≡ lesser_count d xs
lesser_count-nth_except_self d [] = refl
lesser_count-nth_except_self d (x ∷ xs) = omega (arith, one_if-nth_except_lt_self d x, lesser_count-nth_except_self d xs)

permutation_number-nth_except : (d : ℕ) (xs : List ℕ)
    → permutation_number (map (nth_except d) xs) ≡ permutation_number xs
permutation_number-nth_except d [] = refl
permutation_number-nth_except d (x ∷ xs) =
    grind (arith, lesser_count-nth_except, length-map, permutation_number-nth_except d xs)

occurrences-nth_except_low : (d k : ℕ) (xs : List ℕ) → k < d → occurrences k (map (nth_except d) xs) ≡ occurrences k xs
occurrences-nth_except_low d k [] h = refl
occurrences-nth_except_low d k (x ∷ xs) h = omega (arith, one_if-nth_except_low d x k h, occurrences-nth_except_low d k xs h)

occurrences-nth_except_self : (d : ℕ) (xs : List ℕ) → occurrences d (map (nth_except d) xs) ≡ 0
occurrences-nth_except_self d [] = refl
occurrences-nth_except_self d (x ∷ xs) = omega (arith, one_if-nth_except_self d x, occurrences-nth_except_self d xs)

occurrences-nth_except_high : (d k : ℕ) (xs : List ℕ) → d ≤ k
    → occurrences (suc k) (map (nth_except d) xs) ≡ occurrences k xs
occurrences-nth_except_high d k [] h = refl
occurrences-nth_except_high d k (x ∷ xs) h = omega (arith, one_if-nth_except_high d x k h, occurrences-nth_except_high d k xs h)

once-nth_except : (n d : ℕ) (xs : List ℕ) → IsPermutation n xs → d ≤ n → (k : ℕ) → k < suc n
    → occurrences k (d ∷ map (nth_except d) xs) ≡ 1
once-nth_except n d xs p le k lt =
    elim (cases_order k d) [
      | inl e ↦ omega (arith, ap (λ z. occurrences z (d ∷ map (nth_except d) xs)) e, one_if-same d, occurrences-nth_except_self d xs)
      | inr (inl low) ↦ omega (arith, one_if-other d k (λ e. omega arith), occurrences-nth_except_low d k xs low, p.once k (omega arith))
      | inr (inr high) ↦
          let j : ℕ = k - 1 in
          let e : suc j ≡ k = omega arith in
          omega (arith, one_if-other d k (λ e. omega arith), ap (λ z. occurrences z (map (nth_except d) xs)) e, occurrences-nth_except_high d j xs (omega arith), p.once j (omega arith))
    ]

-- a permutation of one number more, from its first number and what follows it
pub IsPermutation-nth_except : (n d : ℕ) (xs : List ℕ) → IsPermutation n xs → d ≤ n
    → IsPermutation (suc n) (d ∷ map (nth_except d) xs)
IsPermutation-nth_except n d xs p le = search (arith, rules, length-map, once-nth_except)

pub permutation_number-first : (n d : ℕ) (xs : List ℕ) → IsPermutation n xs → d ≤ n
    → permutation_number (d ∷ map (nth_except d) xs) ≡ d * factorial n + permutation_number xs
permutation_number-first n d xs p le =
    omega (
      arith,
      permutation_number-nth_except d xs,
      ap (λ c. c * factorial (length (map (nth_except d) xs))) (lesser_count-nth_except_self d xs ∙ lesser_count-permutation n xs p d le),
      ap (λ m. d * factorial m) (length-map xs (nth_except d) ∙ p.size),
    )

-- ---- the permutation that has a number

pub IsPermutation-at : (n r : ℕ) → r < factorial n → IsPermutation n (permutation_at n r)
unfolding permutation_at
IsPermutation-at zero r lt = record { size = refl; once = λ k low. absurd (omega arith) }
IsPermutation-at (suc n) r lt =
    let f : ℕ = factorial n in
    let pos : 0 < f = factorial-pos n in
    let low : r / f < suc n = div_below r f (suc n) pos lt in
    IsPermutation-nth_except n (r / f) (permutation_at n (r % f)) (IsPermutation-at n (r % f) (mod_below r f pos)) (omega arith)

pub permutation_number-at : (n r : ℕ) → r < factorial n → permutation_number (permutation_at n r) ≡ r
unfolding permutation_at
permutation_number-at zero r lt = omega arith
permutation_number-at (suc n) r lt =
    let f : ℕ = factorial n in
    let d : ℕ = r / f in
    let pos : 0 < f = factorial-pos n in
    let low : d < suc n = div_below r f (suc n) pos lt in
    let rest : r % f < f = mod_below r f pos in
    permutation_number-first n d (permutation_at n (r % f)) (IsPermutation-at n (r % f) rest) (omega arith)
    ∙ ap (λ z. d * f + z) (permutation_number-at n (r % f) rest) ∙ div-add-mod' r f

permutation_number-below : (n : ℕ) (xs : List ℕ) → IsPermutation n xs → permutation_number xs < factorial n
permutation_number-below n xs p = omega (arith, permutation_number-lt xs, ap factorial p.size)

pub permutation_at-number : (n : ℕ) (xs : List ℕ) → IsPermutation n xs → permutation_at n (permutation_number xs) ≡ xs
permutation_at-number n xs p =
    search (arith, rules, permutation_number-below, permutation_number-injective, IsPermutation-at, permutation_number-at)

-- permutations are numbered by the numbers below n!
pub permutations_one_to_one : (n : ℕ) → IsOneToOne (factorial n) (permutation_at n) permutation_number (IsPermutation n)
permutations_one_to_one n =
    search (arith, rules, IsPermutation-at, permutation_number-below, permutation_number-at, permutation_at-number)
