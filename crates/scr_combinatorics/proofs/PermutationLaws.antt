-- What holds of permutations of the numbers below n.
use Rattle.std.proofs.Common.{◌≡◌, ℕ, zero, suc, ◌+◌, ◌<◌, ◌≤◌, inl, inr, true, List, [], ◌∷◌, length, slice_index, refl, sym, ap, ◌∙◌, ◌-◌, zero-add, arith}
use Rattle.std.proofs.lemmas.Bool.{cases_eq, cases_lt, cases_order, and_parts, and_from, eqb-true, eq-eqb, ne_eqb, cond-true, cond-false}
use Rattle.std.proofs.lemmas.List.{length-map, get_or-map, ext_get_or}
use Rattle.std.proofs.Math.Nat.{add-zero, add-suc}
use Rattle.std.specs.Prelude.{All}
use Rattle.scr_combinatorics.specs.Lists.{total, occurrences, lesser_count, IsRearranged, numbers_from, pick}
use Rattle.scr_combinatorics.specs.Permutations.{IsPermutation, has_each_once, is_permutation, place_of, inverse}
use Rattle.scr_combinatorics.proofs.Counts.{one_if, total-total_by, occurrences-total_by, All-from_lesser, lesser_count-zero, lesser_count-suc, lesser_count-le_length, occurrences-above, occurrences-at, occurrences-twice, length-rearranged, one_if-other}
use Rattle.scr_combinatorics.proofs.Picks.{length-numbers_from, numbers_from-at, occurrences-numbers_from, length-pick, pick-at, total_by-pick}

pub lesser_count-permutation : (n : ℕ) (xs : List ℕ) → IsPermutation n xs → (x : ℕ) → x ≤ n → lesser_count x xs ≡ x
lesser_count-permutation n xs h zero le = lesser_count-zero xs
lesser_count-permutation n xs h (suc x) le =
    omega (arith, lesser_count-suc x xs, lesser_count-permutation n xs h x (omega arith), h.once x (omega arith))

pub All-permutation : (n : ℕ) (xs : List ℕ) → IsPermutation n xs → All (λ x. x < n) xs
All-permutation n xs h = grind (arith, All-from_lesser, lesser_count-permutation)

pub at-permutation : (n : ℕ) (xs : List ℕ) → IsPermutation n xs → (i : ℕ) → i < n → slice_index xs i < n
at-permutation n xs h i lt = grind (arith, All-permutation)

-- no number stands twice
pub occurrences-permutation : (n : ℕ) (xs : List ℕ) → IsPermutation n xs → (k : ℕ) → occurrences k xs ≤ 1
occurrences-permutation n xs h k =
    elim (cases_lt k n) [
      | inl lt ↦ omega (arith, h.once k lt)
      | inr ge ↦ omega (arith, occurrences-above n xs (All-permutation n xs h) k ge)
    ]

-- two permutations of the same numbers are rearrangements of each other
pub IsRearranged-permutations : (n : ℕ) (xs ys : List ℕ) → IsPermutation n xs → IsPermutation n ys → IsRearranged xs ys
IsRearranged-permutations n xs ys p q k =
    elim (cases_lt k n) [
      | inl lt ↦ p.once k lt ∙ sym (q.once k lt)
      | inr ge ↦ occurrences-above n xs (All-permutation n xs p) k ge ∙ sym (occurrences-above n ys (All-permutation n ys q) k ge)
    ]

pub IsPermutation-rearranged : (n : ℕ) (xs ys : List ℕ) → IsPermutation n xs → IsRearranged xs ys → IsPermutation n ys
IsPermutation-rearranged n xs ys p same = grind (arith, length-rearranged)

pub IsPermutation-numbers_from : (n : ℕ) → IsPermutation n (numbers_from 0 n)
IsPermutation-numbers_from n = grind (arith, length-numbers_from, occurrences-numbers_from)

-- different places hold different numbers
pub injective-permutation : (n : ℕ) (xs : List ℕ) → IsPermutation n xs → (i j : ℕ) → i < n → j < n
    → slice_index xs i ≡ slice_index xs j → i ≡ j
injective-permutation n xs h i j li lj e =
    elim (cases_order i j) [
      | inl same ↦ same
      | inr apart ↦ elim apart [
        | inl lt ↦ absurd (omega (arith, occurrences-twice xs i j lt (omega (arith, h.size)) e, h.once (slice_index xs j) (at-permutation n xs h j lj)))
        | inr gt ↦ absurd (omega (arith, occurrences-twice xs j i gt (omega (arith, h.size)) (sym e), h.once (slice_index xs i) (at-permutation n xs h i li)))
      ]
    ]

-- ---- the test

has_each_once-true : (n : ℕ) (xs : List ℕ) → has_each_once n xs ≡ true → (k : ℕ) → k < n → occurrences k xs ≡ 1
has_each_once-true zero xs e k lt = absurd (omega arith)
has_each_once-true (suc n) xs e k lt = grind (arith, and_parts, cases_eq, eqb-true, has_each_once-true n xs)

has_each_once-from : (n : ℕ) (xs : List ℕ) → ((k : ℕ) → k < n → occurrences k xs ≡ 1) → has_each_once n xs ≡ true
has_each_once-from zero xs h = refl
has_each_once-from (suc n) xs h = grind (arith, and_from, eq-eqb, has_each_once-from n xs)

-- the test says whether a list is a permutation: at numerals `refl` shows the premise
pub IsPermutation-from_test : (n : ℕ) (xs : List ℕ) → is_permutation n xs ≡ true → IsPermutation n xs
IsPermutation-from_test n xs e = grind (arith, and_parts, eqb-true, has_each_once-true)

pub is_permutation-true : (n : ℕ) (xs : List ℕ) → IsPermutation n xs → is_permutation n xs ≡ true
is_permutation-true n xs h = grind (arith, and_from, eq-eqb, has_each_once-from)

-- ---- fewer facts that show a permutation

lesser_count-each : (n : ℕ) (xs : List ℕ) → ((k : ℕ) → k < n → 0 < occurrences k xs) → (m j : ℕ) → m + j ≤ n
    → lesser_count m xs + j ≤ lesser_count (m + j) xs
lesser_count-each n xs each m zero le = simp add-zero (omega arith)
lesser_count-each n xs each m (suc j) le =
    simp add-suc (omega (arith, lesser_count-suc (m + j) xs, lesser_count-each n xs each m j (omega arith), each (m + j) (omega arith)))

-- n numbers among which each number below n occurs
pub IsPermutation-from_each : (n : ℕ) (xs : List ℕ) → length xs ≡ n → ((k : ℕ) → k < n → 0 < occurrences k xs)
    → IsPermutation n xs
IsPermutation-from_each n xs size each = record {
  size = size;
  once = λ k lt.
      let below : k ≤ lesser_count k xs = omega (arith, lesser_count-each n xs each 0 k (omega arith), lesser_count-zero xs, ap (λ z. lesser_count z xs) (zero-add k)) in
      let d : ℕ = n - suc k in
      let all : suc k + d ≡ n = omega arith in
      omega (arith, each k lt, below, lesser_count-suc k xs, lesser_count-each n xs each (suc k) d (omega arith), lesser_count-le_length (suc k + d) xs);
}

-- ---- picking

pub IsRearranged-pick : (xs ks : List ℕ) → IsPermutation (length xs) ks → IsRearranged (pick xs ks) xs
IsRearranged-pick xs ks p v =
    grind (arith, occurrences-total_by, total_by-pick, one_if, IsRearranged-permutations, IsPermutation-numbers_from)

pub total-pick : (xs ks : List ℕ) → IsPermutation (length xs) ks → total (pick xs ks) ≡ total xs
total-pick xs ks p = grind (arith, total-total_by, total_by-pick, IsRearranged-permutations, IsPermutation-numbers_from)

pub IsPermutation-pick : (n : ℕ) (xs ks : List ℕ) → IsPermutation n xs → IsPermutation n ks
    → IsPermutation n (pick xs ks)
IsPermutation-pick n xs ks p q = grind (arith, IsPermutation-rearranged, IsRearranged-pick)

-- ---- the inverse

pub place_of-lt : (x : ℕ) (xs : List ℕ) → 0 < occurrences x xs → place_of x xs < length xs
place_of-lt x [] h = absurd (omega arith)
place_of-lt x (y ∷ ys) h =
    grind (arith, cases_eq, cond-true, eq-eqb, cond-false, ne_eqb, one_if-other, place_of-lt x ys)

pub at-place_of : (x : ℕ) (xs : List ℕ) → 0 < occurrences x xs → slice_index xs (place_of x xs) ≡ x
at-place_of x [] h = absurd (omega arith)
at-place_of x (y ∷ ys) h =
    grind (arith, cases_eq, cond-true, eq-eqb, cond-false, ne_eqb, one_if-other, at-place_of x ys)

pub inverse-at : (n : ℕ) (xs : List ℕ) → length xs ≡ n → (v : ℕ) → v < n → slice_index (inverse xs) v ≡ place_of v xs
inverse-at n xs size v lt =
    let m : ℕ = length xs in
    get_or-map (λ w. place_of w xs) (numbers_from 0 m) v 0 0 (omega (arith, length-numbers_from 0 m))
    ∙ ap (λ w. place_of w xs) (omega (arith, numbers_from-at 0 m v (omega arith)))

pub length-inverse : (xs : List ℕ) → length (inverse xs) ≡ length xs
length-inverse xs = length-map (numbers_from 0 (length xs)) (λ v. place_of v xs) ∙ length-numbers_from 0 (length xs)

pub IsPermutation-inverse : (n : ℕ) (xs : List ℕ) → IsPermutation n xs → IsPermutation n (inverse xs)
IsPermutation-inverse n xs h =
    IsPermutation-from_each n (inverse xs) (length-inverse xs ∙ h.size) (λ k lt.
    let v : ℕ = slice_index xs k in
    let low : v < n = at-permutation n xs h k lt in
    let there : 0 < occurrences v xs = omega (arith, h.once v low) in
    let place : place_of v xs ≡ k =
    injective-permutation n xs h (place_of v xs) k (omega (arith, place_of-lt v xs there, h.size)) lt (at-place_of v xs there) in
    omega (arith, occurrences-at (inverse xs) v (omega (arith, length-inverse xs, h.size)), ap (λ z. occurrences z (inverse xs)) (inverse-at n xs h.size v low ∙ place)))

-- the inverse after the list, and the list after its inverse, leave every place as it is
pub pick-inverse : (n : ℕ) (xs : List ℕ) → IsPermutation n xs → pick xs (inverse xs) ≡ numbers_from 0 n
pick-inverse n xs h =
    let size : length (pick xs (inverse xs)) ≡ n = length-pick xs (inverse xs) ∙ length-inverse xs ∙ h.size in
    ext_get_or 0 (pick xs (inverse xs)) (numbers_from 0 n) (size ∙ sym (length-numbers_from 0 n)) (λ v lt.
    let low : v < n = omega arith in
    pick-at xs (inverse xs) v (omega (arith, length-inverse xs, h.size))
    ∙ ap (λ k. slice_index xs k) (inverse-at n xs h.size v low)
    ∙ at-place_of v xs (omega (arith, h.once v low))
    ∙ sym (omega (arith, numbers_from-at 0 n v low)))

pub inverse-pick : (n : ℕ) (xs : List ℕ) → IsPermutation n xs → pick (inverse xs) xs ≡ numbers_from 0 n
inverse-pick n xs h =
    let size : length (pick (inverse xs) xs) ≡ n = length-pick (inverse xs) xs ∙ h.size in
    ext_get_or 0 (pick (inverse xs) xs) (numbers_from 0 n) (size ∙ sym (length-numbers_from 0 n)) (λ k lt.
    let low : k < n = omega arith in
    let v : ℕ = slice_index xs k in
    let v_low : v < n = at-permutation n xs h k low in
    let there : 0 < occurrences v xs = omega (arith, h.once v v_low) in
    pick-at (inverse xs) xs k (omega (arith, h.size))
    ∙ inverse-at n xs h.size v v_low
    ∙ injective-permutation n xs h (place_of v xs) k (omega (arith, place_of-lt v xs there, h.size)) low (at-place_of v xs there)
    ∙ sym (omega (arith, numbers_from-at 0 n k low)))
