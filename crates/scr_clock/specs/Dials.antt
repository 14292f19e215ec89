-- A Clock as its list of fourteen dials, and its turns (WCA Regulations, article 12).
--
-- Dials 0 to 8 are the front's, in rows as one reads them: UL U UR, L C R, DL D DR. Dials 9 to 13 are the back's, as
-- seen from the back: U, L, C, R, D. The back's corners are no dials of their own, since each always shows the opposite
-- of the front's corner at the same pin.
use Rattle.std.specs.Prelude.{◌≡◌, ℕ, ◌+◌, ◌-◌, ◌%◌, ◌<◌, Bool, ◌==◌, ◌&&◌, nat_lt, if◌then◌else◌, List, [], ◌∷◌, length, map, replicate, slice_index, bit_and, All, Option, Some, None}
use Rattle.std.specs.List.{range_with_len}
use Rattle.scr_combinatorics.specs.Reach.{Puzzle}

-- Fourteen dials, each of which shows an hour from 0 to 11, counted clockwise as seen from the dial's own side.
pub record IsClock (dials : List ℕ) : Type 0 where
  pub fourteen : length dials ≡ 14
  pub below : All (λ d. d < 12) dials

-- A turn of the dials: whether it is the back's or the front's, the pins that are up on that side, and the hours by
-- which it turns. The pins are a sum of 1 for UR, 2 for DR, 4 for DL and 8 for UL, as seen on that side.
pub record DialTurn : Type 0 where
  pub back : Bool
  pub pins : ℕ
  pub amount : ℕ

abbrev pub dial_turn : Bool → ℕ → ℕ → DialTurn
dial_turn back pins amount = record { back = back; pins = pins; amount = amount }

-- Some pin is up, and the amount is an hour from 0 to 11.
abbrev pub is_turn : DialTurn → Bool
is_turn t = nat_lt 0 t.pins && (nat_lt t.pins 16 && nat_lt t.amount 12)

-- The pins next to each dial that a front turn can move: one at a corner, two at an edge, all four at the centre. A
-- front turn moves no dial of the back.
abbrev pub front_pins : List ℕ
front_pins = 8 ∷ 9 ∷ 1 ∷ 12 ∷ 15 ∷ 3 ∷ 4 ∷ 6 ∷ 2 ∷ 0 ∷ 0 ∷ 0 ∷ 0 ∷ 0 ∷ []

-- The same for a back turn, in pins as seen from the back, where left and right are exchanged: the back's UR pin is
-- the front's UL pin. Of the front's dials it moves the corners alone.
abbrev pub back_pins : List ℕ
back_pins = 1 ∷ 0 ∷ 8 ∷ 0 ∷ 0 ∷ 0 ∷ 2 ∷ 0 ∷ 4 ∷ 9 ∷ 12 ∷ 15 ∷ 3 ∷ 6 ∷ []

-- What dial k gains by a turn: nothing where no pin next to it is up, and otherwise the amount, but minus the amount
-- where it is a front corner and the back turns, since that corner then turns the other way.
unfoldable pub gain_at : DialTurn → ℕ → ℕ
gain_at t k =
    let next_to = slice_index (if t.back then back_pins else front_pins) k in
    if bit_and next_to t.pins == 0 then 0 else (if t.back && nat_lt k 9 then 12 - t.amount else t.amount)

-- What a turn makes of the dials: each of the fourteen shows the hour that it comes to.
unfoldable pub dials_turned : List ℕ → DialTurn → List ℕ
dials_turned dials t = map (λ k. (slice_index dials k + gain_at t k) % 12) (range_with_len 0 14)

-- All dials show 12, which is hour 0.
abbrev pub solved : List ℕ
solved = replicate 14 0

-- What a turn counts for in a minimum: a setting of pins on one side turned by 1 to 11 counts once.
unfoldable pub counted : DialTurn → ℕ
counted t = if t.amount == 0 then 0 else 1

-- What a turn makes of the dials, if it is one.
unfoldable pub dials_after : List ℕ → DialTurn → Option (List ℕ)
dials_after dials t = if is_turn t then Some (dials_turned dials t) else None

-- Clock as a puzzle.
abbrev pub clock_puzzle : Puzzle (List ℕ)
clock_puzzle = record { Turn = DialTurn; after = dials_after; IsSolved = λ dials. dials ≡ solved; counted = counted }
