-- A choice by a number below 2 ^ 96, and what makes it fair.
use Rattle.std.specs.Prelude.{ℕ, ◌≡◌, ◌≤◌, ◌^◌, Option, Some, option_and_then, List, length, slice_get, Contains}
use Rattle.scr_draw.specs.Attempt.{answer, quotient}
use Rattle.scr_draw.specs.Count.{IsCount}

-- what a number gives of some choices: the one with the number's answer, or nothing where the number is refused
unfoldable pub choice_of : {X : Type 0} → List X → ℕ → Option X
choice_of choices v = option_and_then (slice_get choices) (answer (length choices) v)

-- A choice is fair.
pub record IsFairChoice {X : Type 0} (choices : List X) : Type 0 where
  -- there are numbers to accept
  pub some : 1 ≤ quotient (length choices)
  -- no choice stands at two places
  pub differ : (i j : ℕ) (x : X) → slice_get choices i ≡ Some x → slice_get choices j ≡ Some x → i ≡ j
  -- each of them is given by equally many numbers
  pub equally : (x : X) → Contains choices x
      → IsCount (λ v. choice_of choices v ≡ Some x) (2 ^ 96) (quotient (length choices))
