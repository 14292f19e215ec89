-- The order of a dictionary.
use Rattle.std.proofs.Common.{◌≡◌, ℕ, ◌<◌, ◌⊎◌, inl, inr, List, [], ◌∷◌, length, refl, arith}
use Rattle.std.proofs.lemmas.Bool.{cases_order}
use Rattle.scr_combinatorics.specs.Lists.{ComesBefore}

-- of two lists of one length, one comes before the other where they differ
pub order_cases : (xs ys : List ℕ) → length xs ≡ length ys → (xs ≡ ys) ⊎ (ComesBefore xs ys ⊎ ComesBefore ys xs)
order_cases [] [] e = inl refl
order_cases [] (y ∷ ys) e = absurd (omega arith)
order_cases (x ∷ xs) [] e = absurd (omega arith)
order_cases (x ∷ xs) (y ∷ ys) e = grind (arith, cases_order, order_cases xs ys (omega arith))

-- no list comes before itself
pub ComesBefore-irrefl : (xs : List ℕ) → ComesBefore xs xs → ⊥
ComesBefore-irrefl [] h = h
ComesBefore-irrefl (x ∷ xs) (inl lt) = omega arith
ComesBefore-irrefl (x ∷ xs) (inr both) = ComesBefore-irrefl xs both.1

-- a numbering that is higher for later lists gives different numbers to different lists
pub same_from_order : (P : List ℕ → Type 0) (f : List ℕ → ℕ)
    → ((xs ys : List ℕ) → P xs → P ys → ComesBefore xs ys → f xs < f ys) → (xs ys : List ℕ) → length xs ≡ length ys
    → P xs → P ys → f xs ≡ f ys → xs ≡ ys
same_from_order P f higher xs ys size p q e =
    elim (order_cases xs ys size) [
      | inl same ↦ same
      | inr (inl before) ↦ absurd (omega (arith, higher xs ys p q before))
      | inr (inr after) ↦ absurd (omega (arith, higher ys xs q p after))
    ]

-- no two lists come before one another
pub ComesBefore-asymmetric : (xs ys : List ℕ) → ComesBefore xs ys → ComesBefore ys xs → ⊥
ComesBefore-asymmetric [] ys p q = p
ComesBefore-asymmetric (x ∷ xs) [] p q = p
ComesBefore-asymmetric (x ∷ xs) (y ∷ ys) (inl lt) (inl gt) = omega arith
ComesBefore-asymmetric (x ∷ xs) (y ∷ ys) (inl lt) (inr both) = omega (arith, both.0)
ComesBefore-asymmetric (x ∷ xs) (y ∷ ys) (inr both) (inl gt) = omega (arith, both.0)
ComesBefore-asymmetric (x ∷ xs) (y ∷ ys) (inr p) (inr q) = ComesBefore-asymmetric xs ys p.1 q.1
