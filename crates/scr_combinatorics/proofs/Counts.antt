-- Counts, sums and rearranged lists.
use Rattle.std.proofs.Common.{◌≡◌, ℕ, zero, suc, ◌+◌, ◌<◌, ◌≤◌, Bool, true, false, cond, eqb, ltb, List, [], ◌∷◌, map, length, refl, sym, ap, ◌∙◌, slice_index, arith}
use Rattle.std.proofs.lemmas.Bool.Decides.{nat_tests}
use Rattle.std.proofs.lemmas.Bool.{cases_eq, eq-eqb, ne_eqb, cases_lt, cond-true, cond-false}
use Rattle.std.proofs.lemmas.List.Elements.{All-nil, All-cons, All-head, All-tail}
use Rattle.std.proofs.Math.Nat.{add-zero, add-suc}
use Rattle.std.specs.Prelude.{All}
use Rattle.scr_combinatorics.specs.Lists.{total, occurrences, lesser_count, IsRearranged}

-- 1 where a test holds, and 0 otherwise
abbrev pub one_if : Bool → ℕ
one_if b = cond b 1 0

-- the sum of what f says of each element
abbrev pub total_by : (ℕ → ℕ) → List ℕ → ℕ
total_by f [] = 0
total_by f (x ∷ xs) = f x + total_by f xs

-- ---- one test

pub one_if-lt_suc : (y x : ℕ) → one_if (ltb y (suc x)) ≡ one_if (ltb y x) + one_if (eqb y x)
one_if-lt_suc y x = grind (arith, nat_tests)

pub one_if-lt_zero : (y : ℕ) → one_if (ltb y 0) ≡ 0
one_if-lt_zero y = grind (arith, nat_tests)

pub one_if-same : (x : ℕ) → one_if (eqb x x) ≡ 1
one_if-same x = grind (arith, nat_tests)

pub one_if-other : (y x : ℕ) → (y ≡ x → ⊥) → one_if (eqb y x) ≡ 0
one_if-other y x h = grind (arith, nat_tests)

pub one_if-lt : (y x : ℕ) → y < x → one_if (ltb y x) ≡ 1
one_if-lt y x h = grind (arith, nat_tests)

pub one_if-ge : (y x : ℕ) → x ≤ y → one_if (ltb y x) ≡ 0
one_if-ge y x h = grind (arith, nat_tests)

pub one_if-le_one : (b : Bool) → one_if b ≤ 1
one_if-le_one true = omega arith
one_if-le_one false = omega arith

-- ---- lesser_count

pub lesser_count-zero : (ys : List ℕ) → lesser_count 0 ys ≡ 0
lesser_count-zero [] = refl
lesser_count-zero (y ∷ ys) = omega (arith, one_if-lt_zero y, lesser_count-zero ys)

pub lesser_count-suc : (x : ℕ) (ys : List ℕ) → lesser_count (suc x) ys ≡ lesser_count x ys + occurrences x ys
lesser_count-suc x [] = refl
lesser_count-suc x (y ∷ ys) = omega (arith, one_if-lt_suc y x, lesser_count-suc x ys)

pub lesser_count-le_length : (x : ℕ) (ys : List ℕ) → lesser_count x ys ≤ length ys
lesser_count-le_length x [] = omega arith
lesser_count-le_length x (y ∷ ys) = omega (arith, one_if-le_one (ltb y x), lesser_count-le_length x ys)

-- the count below x depends only on how often each number stands in the list
pub lesser_count-rearranged : (xs ys : List ℕ) → IsRearranged xs ys → (x : ℕ) → lesser_count x xs ≡ lesser_count x ys
lesser_count-rearranged xs ys same zero = lesser_count-zero xs ∙ sym (lesser_count-zero ys)
lesser_count-rearranged xs ys same (suc x) = grind (arith, lesser_count-suc, lesser_count-rearranged xs ys same x)

pub lesser_count-mono : (x k : ℕ) (ys : List ℕ) → lesser_count x ys ≤ lesser_count (x + k) ys
lesser_count-mono x zero ys = rw add-zero (omega arith)
lesser_count-mono x (suc k) ys = rw add-suc (omega (arith, lesser_count-suc (x + k) ys, lesser_count-mono x k ys))

pub occurrences-here : (x : ℕ) (xs : List ℕ) → occurrences x (x ∷ xs) ≡ suc (occurrences x xs)
occurrences-here x xs = omega (arith, one_if-same x)

pub occurrences-le_length : (x : ℕ) (ys : List ℕ) → occurrences x ys ≤ length ys
occurrences-le_length x [] = omega arith
occurrences-le_length x (y ∷ ys) = omega (arith, one_if-le_one (eqb y x), occurrences-le_length x ys)

-- ---- a list without the first x

abbrev pub without : ℕ → List ℕ → List ℕ
without x [] = []
without x (y ∷ ys) = cond (eqb y x) ys (y ∷ without x ys)

pub without-here : (x y : ℕ) (ys : List ℕ) → y ≡ x → without x (y ∷ ys) ≡ ys
without-here x y ys e = cond-true (eqb y x) ys (y ∷ without x ys) (eq-eqb y x e)

pub without-other : (x y : ℕ) (ys : List ℕ) → (y ≡ x → ⊥) → without x (y ∷ ys) ≡ y ∷ without x ys
without-other x y ys e = cond-false (eqb y x) ys (y ∷ without x ys) (ne_eqb y x e)

-- x occurs in the rest where another number stands first
pub occurs_later : (x y : ℕ) (ys : List ℕ) → 0 < occurrences x (y ∷ ys) → (y ≡ x → ⊥) → 0 < occurrences x ys
occurs_later x y ys h e = omega (arith, one_if-other y x e)

pub occurrences-without : (x : ℕ) (ys : List ℕ) → 0 < occurrences x ys → (k : ℕ)
    → occurrences k (x ∷ without x ys) ≡ occurrences k ys
occurrences-without x [] h k = absurd (omega arith)
occurrences-without x (y ∷ ys) h k =
    grind (arith, cases_eq, without-here, without-other, occurs_later, occurrences-without x ys)

pub total_by-without : (f : ℕ → ℕ) (x : ℕ) (ys : List ℕ) → 0 < occurrences x ys
    → f x + total_by f (without x ys) ≡ total_by f ys
total_by-without f x [] h = absurd (omega arith)
total_by-without f x (y ∷ ys) h =
    grind (arith, cases_eq, without-here, without-other, occurs_later, total_by-without f x ys)

-- what is left of rearranged lists without an element that the first one begins with
pub IsRearranged-without : (x : ℕ) (xs ys : List ℕ) → IsRearranged (x ∷ xs) ys
    → (0 < occurrences x ys) × IsRearranged xs (without x ys)
IsRearranged-without x xs ys same = grind (arith, occurrences-here, occurrences-without)

pub IsRearranged-empty : (y : ℕ) (ys : List ℕ) → IsRearranged [] (y ∷ ys) → ⊥
IsRearranged-empty y ys same = omega (arith, same y, occurrences-here y ys)

-- a rearranged list has the same sums
pub total_by-rearranged : (f : ℕ → ℕ) (xs ys : List ℕ) → IsRearranged xs ys → total_by f xs ≡ total_by f ys
total_by-rearranged f [] [] same = refl
total_by-rearranged f [] (y ∷ ys) same = absurd (IsRearranged-empty y ys same)
total_by-rearranged f (x ∷ xs) ys same =
    let left = IsRearranged-without x xs ys same in
    omega (arith, total_by-without f x ys left.0, total_by-rearranged f xs (without x ys) left.1)

-- ---- the other sums by total_by

pub length-total_by : (xs : List ℕ) → length xs ≡ total_by (λ x. 1) xs
length-total_by [] = refl
length-total_by (x ∷ xs) = omega (arith, length-total_by xs)

pub total-total_by : (xs : List ℕ) → total xs ≡ total_by (λ x. x) xs
total-total_by [] = refl
total-total_by (x ∷ xs) = omega (arith, total-total_by xs)

pub occurrences-total_by : (v : ℕ) (xs : List ℕ) → occurrences v xs ≡ total_by (λ x. one_if (eqb x v)) xs
occurrences-total_by v [] = refl
occurrences-total_by v (x ∷ xs) = omega (arith, occurrences-total_by v xs)

pub length-rearranged : (xs ys : List ℕ) → IsRearranged xs ys → length xs ≡ length ys
length-rearranged xs ys same = grind (arith, length-total_by, total_by-rearranged)

pub total_by-map : (f h : ℕ → ℕ) (xs : List ℕ) → total_by f (map h xs) ≡ total_by (λ x. f (h x)) xs
total_by-map f h [] = refl
total_by-map f h (x ∷ xs) = ap (λ t. f (h x) + t) (total_by-map f h xs)

-- ---- all below a bound

pub All-from_lesser : (n : ℕ) (xs : List ℕ) → lesser_count n xs ≡ length xs → All (λ x. x < n) xs
All-from_lesser n [] e = All-nil (λ x. x < n)
All-from_lesser n (x ∷ xs) e =
    grind (arith, cases_lt, All-cons, one_if-lt, one_if-ge, lesser_count-le_length, All-from_lesser n xs)

pub lesser_count-all : (n : ℕ) (xs : List ℕ) → All (λ x. x < n) xs → lesser_count n xs ≡ length xs
lesser_count-all n [] h = refl
lesser_count-all n (x ∷ xs) h =
    omega (arith, one_if-lt x n (All-head (λ z. z < n) x xs h), lesser_count-all n xs (All-tail (λ z. z < n) x xs h))

pub occurrences-above : (n : ℕ) (xs : List ℕ) → All (λ x. x < n) xs → (k : ℕ) → n ≤ k → occurrences k xs ≡ 0
occurrences-above n [] h k ge = refl
occurrences-above n (x ∷ xs) h k ge =
    let below : x < n = All-head (λ z. z < n) x xs h in
    omega (arith, one_if-other x k (λ e. omega arith), occurrences-above n xs (All-tail (λ z. z < n) x xs h) k ge)

-- an element occurs
pub occurrences-at : (xs : List ℕ) (i : ℕ) → i < length xs → 0 < occurrences (slice_index xs i) xs
occurrences-at [] i lt = absurd (omega arith)
occurrences-at (x ∷ xs) zero lt = omega (arith, one_if-same x)
occurrences-at (x ∷ xs) (suc i) lt = omega (arith, occurrences-at xs i (omega arith))

-- an element that stands at two places occurs twice
pub occurrences-twice : (xs : List ℕ) (i j : ℕ) → i < j → j < length xs → slice_index xs i ≡ slice_index xs j
    → 2 ≤ occurrences (slice_index xs j) xs
occurrences-twice [] i j lt there e = absurd (omega arith)
occurrences-twice (x ∷ xs) i zero lt there e = absurd (omega arith)
occurrences-twice (x ∷ xs) zero (suc j) lt there e = grind (arith, one_if-same, occurrences-at)
occurrences-twice (x ∷ xs) (suc i) (suc j) lt there e =
    omega (arith, occurrences-twice xs i j (omega arith) (omega arith) e)
