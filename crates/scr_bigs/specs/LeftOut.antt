-- Turns that are left out of all turns of a cube: so many, from the one with a number on.
use Rattle.std.specs.Prelude.{ℕ, ◌≡◌, ◌+◌, ◌-◌, ◌*◌, ◌<◌, nat_lt, if◌then◌else◌, List, length, slice_get}
use Rattle.scr_notation.specs.declared.turn.Turn.{Turn}
use Rattle.scr_bigs.specs.BigCubes.{cube_turns}

-- the number among all turns of a choice with a number
abbrev pub number_of_choice : ℕ → ℕ → ℕ → ℕ
number_of_choice first count choice = if nat_lt choice first then choice else choice + count

-- Choices are all turns but those that are left out.
pub record AreLeft (side first count : ℕ) (choices : List Turn) : Type 0 where
  pub some : count < 9 * (side - 1)
  pub size : length choices ≡ 9 * (side - 1) - count
  pub each : (choice : ℕ) → choice < 9 * (side - 1) - count
      → slice_get choices choice ≡ slice_get (cube_turns side) (number_of_choice first count choice)
