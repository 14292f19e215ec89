-- States that are told by digits are numbered.
use Rattle.std.proofs.Common.{arith, ◌≡◌, ℕ, ◌≤◌, ◌^◌, List, ap, ◌∙◌, sym}
use Rattle.scr_combinatorics.specs.Digits.{product, AreDigits}
use Rattle.scr_combinatorics.specs.Numbered.{numbered_by_digits}
use Rattle.scr_combinatorics.specs.Numbering.{IsOneToOne, IsNumbering}
use Rattle.scr_combinatorics.proofs.Digits.{digits_one_to_one}

module _ {S : Type 0} (bases : List ℕ) (state_of : List ℕ → S) (digits_of : S → List ℕ) (IsValid : S → Type 0) where
  -- a list of digits gives a valid state that has those digits
  pub record GivesState (ds : List ℕ) : Type 0 where
    pub valid : IsValid (state_of ds)
    pub again : digits_of (state_of ds) ≡ ds

  -- a state has digits, which give it
  pub record HasDigits (s : S) : Type 0 where
    pub below : AreDigits bases (digits_of s)
    pub again : state_of (digits_of s) ≡ s

  -- Where each list of digits gives a state, and each valid state has its digits, the number that they write numbers
  -- the states.
  pub numbering_by_digits : 1 ≤ product bases → product bases ≤ 2 ^ 96
      → ((ds : List ℕ) → AreDigits bases ds → GivesState ds) → ((s : S) → IsValid s → HasDigits s)
      → IsNumbering (numbered_by_digits bases state_of digits_of IsValid)
  numbering_by_digits some fits gives has = grind (arith, digits_one_to_one)

-- ---- what each numbering gives

-- no other valid state has the number
pub only_one : {S : Type 0} {count : ℕ} {state_at : ℕ → S} {number_of : S → ℕ} {IsValid : S → Type 0}
    → IsOneToOne count state_at number_of IsValid → (n : ℕ) (s other : S) → s ≡ state_at n → IsValid other
    → number_of other ≡ n → s ≡ other
only_one {S} {count} {state_at} law n s other is valid number = is ∙ ap state_at (sym number) ∙ law.state_again other valid
