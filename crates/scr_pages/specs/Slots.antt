-- The scrambles of a sheet with their lines, and which of them have no place on pages.
use Rattle.std.specs.Prelude.{ℕ, ◌≡◌, ◌+◌, Some, None, List, [], ◌∷◌, flat_map}
use Rattle.scr_combinatorics.specs.Play.{play}
use Rattle.scr_combinatorics.specs.Reach.{Needs}
use Rattle.scr_notation.specs.Written.{Written}
use Rattle.scr_notation.specs.declared.event.Puzzle.TheVariants.{Square1}
use Rattle.scr_notation.specs.Event.{puzzle_of}
use Rattle.scr_read.specs.Groups.{GroupOf, scrambles_of}
use Rattle.scr_sq1.specs.Units.{Sq1State, solved_sq1, sq1_after, sq1_puzzle}

-- a scramble, and the number of its line in the sheet, from 1
pub record Slot : Type 0 where
  pub line : ℕ
  pub scramble : Written

-- scrambles in lines one after another, the first of them this
abbrev pub slots_from : ℕ → List Written → List Slot
slots_from line [] = []
slots_from line (scramble ∷ more) = record { line = line; scramble = scramble } ∷ slots_from (line + 1) more

-- those of a group, whose name stands in the line before the first
abbrev pub slots_of_group : GroupOf → List Slot
slots_of_group group = slots_from (group.line + 1) (scrambles_of group.head.event group.scrambles)

abbrev pub slots_of : List GroupOf → List Slot
slots_of groups = flat_map slots_of_group groups

-- it is of a Square-1, of which a turn is barred in its place
pub record IsBarred (slot : Slot) : Type 0 where
  pub puzzle : puzzle_of slot.scramble.event ≡ Square1
  pub barred : play sq1_after solved_sq1 slot.scramble.turns ≡ None

-- it is a Square-1 that fewer than eleven turns solve (WCA Regulations, article 4b3)
pub record IsNear (slot : Slot) : Type 0 where
  pub puzzle : puzzle_of slot.scramble.event ≡ Square1
  pub state : Sq1State
  pub plays : play sq1_after solved_sq1 slot.scramble.turns ≡ Some state
  pub near : Needs sq1_puzzle state 11 → ⊥
