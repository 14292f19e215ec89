-- Inversions and parities of compositions and inverses.
use Rattle.std.proofs.Common.{◌≡◌, ℕ, zero, suc, ◌+◌, ◌*◌, ◌%◌, ◌<◌, ◌≤◌, ltb, List, [], ◌∷◌, map, slice_index, refl, sym, ap, ◌∙◌, arith}
use Rattle.std.proofs.lemmas.Bool.{cases_eq, cases_order}
use Rattle.std.proofs.lemmas.Bool.Decides.{nat_tests}
use Rattle.std.proofs.lemmas.List.Elements.{All-head, All-tail}
use Rattle.std.specs.Prelude.{All}
use Rattle.scr_combinatorics.specs.Lists.{occurrences, lesser_count, IsRearranged, numbers_from, pick}
use Rattle.scr_combinatorics.specs.Permutations.{IsPermutation, inversions, parity, inverse}
use Rattle.scr_combinatorics.proofs.Counts.{one_if, total_by, without, without-here, without-other, occurs_later, total_by-without, IsRearranged-without, IsRearranged-empty, total_by-rearranged, total_by-map, one_if-lt, one_if-ge}
use Rattle.scr_combinatorics.proofs.Picks.{pick-in_order}
use Rattle.scr_combinatorics.proofs.PermutationLaws.{injective-permutation, All-permutation, IsRearranged-permutations, IsPermutation-numbers_from, IsPermutation-inverse, pick-inverse}

-- the sum of what g says of each pair of elements, the earlier one first
abbrev pub pair_sum : (ℕ → ℕ → ℕ) → List ℕ → ℕ
pair_sum g [] = 0
pair_sum g (x ∷ xs) = total_by (g x) xs + pair_sum g xs

-- ---- a sum over pairs that does not look at their order is that of any rearrangement

module _ (g : ℕ → ℕ → ℕ) (same : (x y : ℕ) → g x y ≡ g y x) where
  pair_sum-without : (x : ℕ) (ys : List ℕ) → 0 < occurrences x ys
      → total_by (g x) (without x ys) + pair_sum g (without x ys) ≡ pair_sum g ys
  pair_sum-without x [] h = absurd (omega arith)
  pair_sum-without x (y ∷ ys) h =
      grind (arith, cases_eq, without-here, total_by, without-other, total_by-without, occurs_later, pair_sum-without x ys)

  pub pair_sum-rearranged : (xs ys : List ℕ) → IsRearranged xs ys → pair_sum g xs ≡ pair_sum g ys
  pair_sum-rearranged [] [] h = refl
  pair_sum-rearranged [] (y ∷ ys) h = absurd (IsRearranged-empty y ys h)
  pair_sum-rearranged (x ∷ xs) ys h =
      let left = IsRearranged-without x xs ys h in
      omega (arith, total_by-rearranged (g x) xs (without x ys) left.1, pair_sum-without x ys left.0, pair_sum-rearranged xs (without x ys) left.1)

-- ---- inversions as such a sum

-- 1 where the second number of a pair is below the first
abbrev falls : ℕ → ℕ → ℕ
falls x y = one_if (ltb y x)

lesser_count-total_by : (x : ℕ) (ys : List ℕ) → lesser_count x ys ≡ total_by (falls x) ys
lesser_count-total_by x [] = refl
lesser_count-total_by x (y ∷ ys) = ap (λ t. falls x y + t) (lesser_count-total_by x ys)

inversions-map : (h : ℕ → ℕ) (ks : List ℕ) → inversions (map h ks) ≡ pair_sum (λ a b. falls (h a) (h b)) ks
inversions-map h [] = refl
inversions-map h (k ∷ ks) = grind (arith, lesser_count-total_by, total_by-map, inversions-map h ks)

inversions-pair_sum : (ks : List ℕ) → inversions ks ≡ pair_sum falls ks
inversions-pair_sum [] = refl
inversions-pair_sum (k ∷ ks) = omega (arith, lesser_count-total_by k ks, inversions-pair_sum ks)

-- ---- a composition

module _ (n : ℕ) (f g s e : ℕ → ℕ → ℕ) (each : (a b : ℕ) → a < n → b < n → f a b + g a b ≡ s a b + 2 * e a b) where
  total_by-each : (a : ℕ) (ks : List ℕ) → a < n → All (λ k. k < n) ks
      → total_by (f a) ks + total_by (g a) ks ≡ total_by (s a) ks + 2 * total_by (e a) ks
  total_by-each a [] lt low = refl
  total_by-each a (k ∷ ks) lt low = omega (arith, each a k lt (All-head (λ z. z < n) k ks low), total_by-each a ks lt (All-tail (λ z. z < n) k ks low))

  pair_sum-each : (ks : List ℕ) → All (λ k. k < n) ks
      → pair_sum f ks + pair_sum g ks ≡ pair_sum s ks + 2 * pair_sum e ks
  pair_sum-each [] low = refl
  pair_sum-each (k ∷ ks) low = let rest = All-tail (λ z. z < n) k ks low in
      omega (arith, total_by-each k ks (All-head (λ z. z < n) k ks low) rest, pair_sum-each ks rest)

-- 1 where h has two numbers in falling order, the lower one first
abbrev turned : (ℕ → ℕ) → ℕ → ℕ → ℕ
turned h a b = one_if (ltb a b) * falls (h a) (h b) + one_if (ltb b a) * falls (h b) (h a)

turned-swap : (h : ℕ → ℕ) (a b : ℕ) → turned h a b ≡ turned h b a
turned-swap h a b = omega arith

falls-apart : (x y : ℕ) → (x ≡ y → ⊥) → falls x y + falls y x ≡ 1
falls-apart x y h = grind (arith, nat_tests)

-- what h turns and what the places turn come together, but for what both turn
turned-each : (h : ℕ → ℕ) (a b : ℕ) → (h a ≡ h b → a ≡ b)
    → falls (h a) (h b) + falls a b ≡ turned h a b + 2 * (falls a b * falls (h a) (h b))
turned-each h a b apart = grind (arith, cases_order, one_if-ge, one_if-lt, falls-apart)

lesser_count-numbers_from : (x start n : ℕ) → x ≤ start → lesser_count x (numbers_from start n) ≡ 0
lesser_count-numbers_from x start zero le = refl
lesser_count-numbers_from x start (suc n) le =
    omega (arith, one_if-ge start x le, lesser_count-numbers_from x (suc start) n (omega arith))

pub inversions-numbers_from : (start n : ℕ) → inversions (numbers_from start n) ≡ 0
inversions-numbers_from start zero = refl
inversions-numbers_from start (suc n) = grind (arith, lesser_count-numbers_from, inversions-numbers_from (suc start) n)

inversions-pick : (h : ℕ → ℕ) (n : ℕ) → ((i j : ℕ) → i < n → j < n → h i ≡ h j → i ≡ j) → (ks : List ℕ)
    → All (λ k. k < n) ks
    → inversions (map h ks) + inversions ks ≡ pair_sum (turned h) ks + 2 * pair_sum (λ a b. falls a b * falls (h a) (h b)) ks
inversions-pick h n apart ks low =
    omega (
      arith,
      inversions-map h ks,
      inversions-pair_sum ks,
      pair_sum-each n (λ a b. falls (h a) (h b)) falls (turned h) (λ a b. falls a b * falls (h a) (h b)) (λ a b la lb. turned-each h a b (apart a b la lb)) ks low,
    )

-- the parity of a composition is the sum of the parities
pub parity-pick : (n : ℕ) (xs ks : List ℕ) → IsPermutation n xs → IsPermutation n ks
    → parity (pick xs ks) ≡ (parity xs + parity ks) % 2
parity-pick n xs ks p q =
    let h : ℕ → ℕ = λ k. slice_index xs k in
    let ordered : List ℕ = numbers_from 0 n in
    let r : IsPermutation n ordered = IsPermutation-numbers_from n in
    let all : map h ordered ≡ xs = ap (λ m. map h (numbers_from 0 m)) (sym p.size) ∙ pick-in_order xs in
    omega (
      arith,
      inversions-pick h n (injective-permutation n xs p) ks (All-permutation n ks q),
      inversions-pick h n (injective-permutation n xs p) ordered (All-permutation n ordered r),
      pair_sum-rearranged (turned h) (turned-swap h) ks ordered (IsRearranged-permutations n ks ordered q r),
      inversions-numbers_from 0 n,
      ap inversions all,
    )

-- the parity of the inverse is that of the list
pub parity-inverse : (n : ℕ) (xs : List ℕ) → IsPermutation n xs → parity (inverse xs) ≡ parity xs
parity-inverse n xs p =
    omega (arith, parity-pick n xs (inverse xs) p (IsPermutation-inverse n xs p), ap inversions (pick-inverse n xs p), inversions-numbers_from 0 n)
