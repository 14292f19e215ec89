-- What is known of Clocks from elsewhere, and what their shape says of the pins.
use Rattle.std.specs.Prelude.{◌≡◌, ℕ, ◌-◌, ◌%◌, ◌==◌, if◌then◌else◌, List, [], ◌∷◌, slice_index, Some}
use Rattle.scr_combinatorics.specs.Lists.{pick}
use Rattle.scr_notation.specs.Spelling.{text_of}
use Rattle.scr_clock.specs.Dials.{solved}
use Rattle.scr_clock.specs.Numbers.{clock_numbered}
use Rattle.scr_clock.specs.Held.{clock_after}
use Rattle.scr_clock.specs.Written.{written}

-- A number, the dials that it stands for, the amounts of the scramble that leads to them, and its text.
pub record IsKnownClock (number : ℕ) (dials amounts text : List ℕ) : Type 0 where
  pub dials_are : clock_numbered.state_at number ≡ dials
  pub number_is : clock_numbered.number_of dials ≡ number
  pub gives : clock_after solved (written amounts) ≡ Some dials
  pub printed : text_of (written amounts) ≡ text

-- the places of the front's corners, UL UR DL DR, and of the edges and the centre of each side, U L C R D
abbrev pub corners : List ℕ
corners = 0 ∷ 2 ∷ 6 ∷ 8 ∷ []

abbrev pub front_cross : List ℕ
front_cross = 1 ∷ 3 ∷ 4 ∷ 5 ∷ 7 ∷ []

abbrev pub back_cross : List ℕ
back_cross = 9 ∷ 10 ∷ 11 ∷ 12 ∷ 13 ∷ []

-- a pin as seen from the other side, where left and right are exchanged: UR and UL, DR and DL
abbrev pub mirrored_dial : ℕ → ℕ
mirrored_dial pin =
    if pin == 1 then 8 else (if pin == 8 then 1 else (if pin == 2 then 4 else (if pin == 4 then 2 else 0)))

-- The dials of a Clock that is turned over, as seen from its new front: each corner shows the opposite of what the
-- other side's corner at the same pin shows, and the sides' edges and centres are exchanged.
unfoldable pub turned_over_clock : List ℕ → List ℕ
turned_over_clock dials =
    let d : ℕ → ℕ = slice_index dials in
    let opposite : ℕ → ℕ = λ hour. (12 - hour) % 12 in
    opposite (d 2) ∷ d 9 ∷ opposite (d 0)
    ∷ d 10 ∷ d 11 ∷ d 12
    ∷ opposite (d 8) ∷ d 13 ∷ opposite (d 6)
    ∷ pick dials front_cross
