-- Digits in one base whose sum is 0 modulo the base, as the twists of corners and the flips of edges are.
use Rattle.std.specs.Prelude.{◌≡◌, ℕ, ◌-◌, ◌%◌, ◌<◌, List, [], ◌∷◌, ◌++◌, All, length, replicate}
use Rattle.scr_combinatorics.specs.Lists.{total}
use Rattle.scr_combinatorics.specs.Digits.{mixed_number, mixed_digits}

-- n digits below `base` whose sum is 0 modulo `base`
pub record IsTwists (n base : ℕ) (ds : List ℕ) : Type 0 where
  pub size : length ds ≡ n
  pub below : All (λ d. d < base) ds
  pub sum_fixed : total ds % base ≡ 0

-- the number of such digits: the last one is fixed by the others and is not read
abbrev pub twists_number : ℕ → List ℕ → ℕ
twists_number base ds = mixed_number (replicate (length ds - 1) base) ds

-- digits, and then the one that makes their sum 0 modulo the base
unfoldable pub with_sum_fixed : ℕ → List ℕ → List ℕ
with_sum_fixed base digits = digits ++ (base - total digits % base) % base ∷ []

-- the n digits whose sum is 0 modulo the base and that have this number
unfoldable pub twists_at : ℕ → ℕ → ℕ → List ℕ
twists_at n base number = with_sum_fixed base (mixed_digits (replicate (n - 1) base) number)
