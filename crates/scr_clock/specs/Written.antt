-- The written scramble of a Clock: fourteen amounts at fixed pin sets (WCA Regulations, articles 4 and 12).
use Rattle.std.specs.Prelude.{◌≡◌, ℕ, List, ◌∷◌, ◌++◌, take, drop, Some}
use Rattle.std.specs.Simd.Lanes.{zip2}
use Rattle.scr_notation.specs.declared.turn.Turn.{Turn}
use Rattle.scr_notation.specs.declared.turn.Turn.TheVariants.{Pins, Over}
use Rattle.scr_notation.specs.Pins.{pin_sets}
use Rattle.scr_clock.specs.Dials.{IsClock, solved}
use Rattle.scr_clock.specs.Held.{clock_after}

-- the turns of these pin sets, each by the amount at its place
unfoldable pub pins_at : List ℕ → List ℕ → List Turn
pins_at sets amounts = zip2 (λ pins amount. Pins pins amount) sets amounts

-- The turns of a scramble: on the front the nine pin sets UR DR DL UL U R D L ALL, and, behind `y2`, the last five of
-- them on the back, as seen from there.
unfoldable pub written : List ℕ → List Turn
written amounts = pins_at pin_sets (take 9 amounts) ++ Over ∷ pins_at (drop 4 pin_sets) (drop 9 amounts)

-- The scramble of a Clock: the turns that lead to it from solved, by some amounts, which are fourteen hours from 0 to
-- 11, as the dials of a Clock are.
pub record IsClockScramble (dials : List ℕ) (turns : List Turn) : Type 0 where
  pub amounts : List ℕ
  pub hours : IsClock amounts
  pub turns_are : turns ≡ written amounts
  pub gives : clock_after solved turns ≡ Some dials
