-- The numbers of Clocks.
use Rattle.std.specs.Prelude.{ℕ, List, replicate}
use Rattle.scr_combinatorics.specs.Numbered.{Numbers, numbers_by_digits, Numbered, numbered_by_digits}
use Rattle.scr_clock.specs.Dials.{IsClock}

-- The numbered Clocks, 12^14 of them: dial k is digit k of the number in base 12;
abbrev pub clock_numbers : Numbers (List ℕ)
clock_numbers = numbers_by_digits (replicate 14 12) (λ dials. dials) IsClock

-- and with the Clock of each number.
abbrev pub clock_numbered : Numbered (List ℕ)
clock_numbered = numbered_by_digits (replicate 14 12) (λ dials. dials) (λ dials. dials) IsClock
