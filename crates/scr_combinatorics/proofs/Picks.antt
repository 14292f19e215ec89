-- Lists that are picked by a list of places.
use Rattle.std.proofs.Common.{rules, ◌≡◌, ℕ, zero, suc, ◌+◌, ◌<◌, ◌≤◌, eqb, List, [], ◌∷◌, map, length, slice_index, refl, sym, ap, ◌∙◌, arith, inl, inr}
use Rattle.std.proofs.lemmas.Bool.{cases_eq}
use Rattle.std.proofs.lemmas.List.{length-map, get_or-map}
use Rattle.std.proofs.lemmas.List.Elements.{All-nil, All-cons, All-head, All-tail}
use Rattle.std.specs.Prelude.{All}
use Rattle.scr_combinatorics.specs.Lists.{occurrences, IsRearranged, numbers_from, pick}
use Rattle.scr_combinatorics.proofs.Counts.{one_if, total_by, total_by-map, total_by-rearranged, one_if-same, one_if-other}

-- ---- the numbers in order

pub length-numbers_from : (start n : ℕ) → length (numbers_from start n) ≡ n
length-numbers_from start zero = refl
length-numbers_from start (suc n) = ap suc (length-numbers_from (suc start) n)

pub numbers_from-at : (start n i : ℕ) → i < n → slice_index (numbers_from start n) i ≡ start + i
numbers_from-at start zero i lt = absurd (omega arith)
numbers_from-at start (suc n) zero lt = omega arith
numbers_from-at start (suc n) (suc i) lt = omega (arith, numbers_from-at (suc start) n i (omega arith))

pub occurrences-numbers_before : (k start n : ℕ) → k < start → occurrences k (numbers_from start n) ≡ 0
occurrences-numbers_before k start zero lt = refl
occurrences-numbers_before k start (suc n) lt =
    omega (arith, one_if-other start k (λ e. omega arith), occurrences-numbers_before k (suc start) n (omega arith))

pub occurrences-numbers_from : (k start n : ℕ) → start ≤ k → k < start + n → occurrences k (numbers_from start n) ≡ 1
occurrences-numbers_from k start zero le lt = absurd (omega arith)
occurrences-numbers_from k start (suc n) le lt =
    elim (cases_eq start k) [
      | inl e ↦ omega (arith, ap (λ z. one_if (eqb start z)) e, one_if-same start, occurrences-numbers_before k (suc start) n (omega arith))
      | inr e ↦ omega (arith, one_if-other start k e, occurrences-numbers_from k (suc start) n (omega arith) (omega arith))
    ]

map-numbers_suc : (h : ℕ → ℕ) (start n : ℕ)
    → map h (numbers_from (suc start) n) ≡ map (λ k. h (suc k)) (numbers_from start n)
map-numbers_suc h start zero = refl
map-numbers_suc h start (suc n) = ap (λ xs. h (suc start) ∷ xs) (map-numbers_suc h (suc start) n)

-- ---- pick

pub length-pick : (xs ks : List ℕ) → length (pick xs ks) ≡ length ks
length-pick xs ks = length-map ks (λ k. slice_index xs k)

pub pick-at : (xs ks : List ℕ) (i : ℕ) → i < length ks → slice_index (pick xs ks) i ≡ slice_index xs (slice_index ks i)
pick-at xs ks i lt = get_or-map (λ k. slice_index xs k) ks i 0 0 lt

-- the numbers in order pick the list itself
pub pick-in_order : (xs : List ℕ) → pick xs (numbers_from 0 (length xs)) ≡ xs
pick-in_order [] = refl
pick-in_order (x ∷ xs) = grind (arith, map-numbers_suc, pick-in_order xs)

-- from the numbers in order each list picks itself
pub pick-from_order : (n : ℕ) (ks : List ℕ) → All (λ k. k < n) ks → pick (numbers_from 0 n) ks ≡ ks
pick-from_order n [] below = refl
pick-from_order n (k ∷ ks) below =
    ap (λ x. x ∷ pick (numbers_from 0 n) ks) (omega (arith, numbers_from-at 0 n k (All-head (λ z. z < n) k ks below)))
    ∙ ap (λ xs. k ∷ xs) (pick-from_order n ks (All-tail (λ z. z < n) k ks below))

-- picking twice is picking by the composition
pub pick-pick : (xs ks ls : List ℕ) → All (λ l. l < length ks) ls → pick (pick xs ks) ls ≡ pick xs (pick ks ls)
pick-pick xs ks [] below = refl
pick-pick xs ks (l ∷ ls) below = search (arith, rules, pick-at, All-head, All-tail, pick-pick xs ks ls)

pub All-pick : (P : ℕ → Type 0) (xs ks : List ℕ) → All P xs → All (λ k. k < length xs) ks → All P (pick xs ks)
All-pick P xs [] each below = All-nil P
All-pick P xs (k ∷ ks) each below = search (arith, rules, All-cons, All-head, All-tail, All-pick P xs ks each)

-- any sum over a list is that over what each of its places picks
pub total_by-pick : (f : ℕ → ℕ) (xs ks : List ℕ) → IsRearranged ks (numbers_from 0 (length xs))
    → total_by f (pick xs ks) ≡ total_by f xs
total_by-pick f xs ks same =
    let h : ℕ → ℕ = λ k. slice_index xs k in
    total_by-map f h ks
    ∙ total_by-rearranged (λ k. f (h k)) ks (numbers_from 0 (length xs)) same
    ∙ sym (total_by-map f h (numbers_from 0 (length xs)))
    ∙ ap (total_by f) (pick-in_order xs)
