-- Counting numbers, one by one from 0.
use Rattle.std.specs.Prelude.{ℕ, zero, suc, ◌≡◌, ◌+◌, ◌<◌, Bool, cond, ◌↔◌, IsTrue}

-- how many of the numbers below n pass a test
unfoldable pub count_below : (ℕ → Bool) → ℕ → ℕ
count_below p zero = 0
count_below p (suc n) = count_below p n + cond (p n) 1 0

-- Exactly k of the numbers below a bound have a property: some test tells of each of them whether it
-- has the property, and k of them pass.
pub record IsCount (P : ℕ → Type 0) (bound k : ℕ) : Type 0 where
  pub test : ℕ → Bool
  pub tells : (v : ℕ) → v < bound → IsTrue (test v) ↔ P v
  pub counted : count_below test bound ≡ k
