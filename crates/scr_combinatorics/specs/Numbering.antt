-- What it is for states, or lists, to be numbered.
use Rattle.std.specs.Prelude.{ℕ, ◌≡◌, ◌<◌, ◌≤◌, ◌^◌}
use Rattle.scr_combinatorics.specs.Numbered.{Numbered}

-- The valid states are those of the numbers below the count, each of exactly one of them.
pub record IsOneToOne {S : Type 0} (count : ℕ) (state_at : ℕ → S) (number_of : S → ℕ) (IsValid : S → Type 0) : Type 0 where
  pub valid : (i : ℕ) → i < count → IsValid (state_at i)
  pub below : (s : S) → IsValid s → number_of s < count
  pub number_again : (i : ℕ) → i < count → number_of (state_at i) ≡ i
  pub state_again : (s : S) → IsValid s → state_at (number_of s) ≡ s

-- A numbering by which states can be drawn: there is a state, and three words of 32 bits tell all of them apart.
pub record IsNumbering {S : Type 0} (n : Numbered S) : Type 0 where
  pub some : 1 ≤ n.count
  pub fits : n.count ≤ 2 ^ 96
  pub one_to_one : IsOneToOne n.count n.state_at n.number_of n.IsValid
