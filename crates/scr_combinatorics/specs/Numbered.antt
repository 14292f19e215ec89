-- States that are numbered.
use Rattle.std.specs.Prelude.{ℕ, List}
use Rattle.scr_combinatorics.specs.Digits.{product, mixed_number, mixed_digits}

-- How many states there are, the number of each state, below that, and which states are meant.
pub record Numbers (S : Type 0) : Type 1 where
  pub count : ℕ
  pub number_of : S → ℕ
  pub IsValid : S → Type 0

-- The same, and the state of each number.
pub record Numbered (S : Type 0) : Type 1 where
  pub count : ℕ
  pub state_at : ℕ → S
  pub number_of : S → ℕ
  pub IsValid : S → Type 0

-- of these, which number each state has
abbrev pub numbers_of : {S : Type 0} → Numbered S → Numbers S
numbers_of n = record { count = n.count; number_of = n.number_of; IsValid = n.IsValid }

-- States that are told by digits, each below its own base: a state's number is the one that its digits write.
abbrev pub numbers_by_digits : {S : Type 0} → List ℕ → (S → List ℕ) → (S → Type 0) → Numbers S
numbers_by_digits bases digits_of IsValid =
    record { count = product bases; number_of = λ s. mixed_number bases (digits_of s); IsValid = IsValid }

-- and with the state of each number
abbrev pub numbered_by_digits : {S : Type 0} → List ℕ → (List ℕ → S) → (S → List ℕ) → (S → Type 0) → Numbered S
numbered_by_digits bases state_of digits_of IsValid = record {
  count = product bases;
  state_at = λ number. state_of (mixed_digits bases number);
  number_of = λ s. mixed_number bases (digits_of s);
  IsValid = IsValid;
}
