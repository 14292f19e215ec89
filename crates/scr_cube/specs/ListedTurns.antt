-- Turns of a cube, told by their places in a list, and what a search by them works on.
use Rattle.std.specs.Prelude.{ℕ, List, [], ◌∷◌, length, slice_index, Option}
use Rattle.scr_combinatorics.specs.Lists.{numbers_from}
use Rattle.scr_combinatorics.specs.Stages.{by_letters}
use Rattle.scr_orbit.specs.PowerPuzzles.{after_letter}
use Rattle.scr_notation.specs.declared.turn.Turn.{Turn}
use Rattle.scr_notation.specs.TurnNumbers.{face_turn_at}
use Rattle.scr_positions.specs.SearchSpaces.{SearchSpace}
use Rattle.scr_cube.specs.Cube333.{CubeState, cube_powers}

-- all turns, by their numbers: U U2 U' R R2 R' F F2 F' D D2 D' L L2 L' B B2 B' are 0 to 17
abbrev pub turn_numbers : List ℕ
turn_numbers = numbers_from 0 18

-- the letter at a place of a list of turns
abbrev pub letter_in : List ℕ → ℕ → List Turn
letter_in turns place = face_turn_at (slice_index turns place) ∷ []

-- what the turn at a place makes of a cube: over this, words of places are played
abbrev pub after_of : List ℕ → CubeState → ℕ → Option CubeState
after_of turns = by_letters (after_letter cube_powers) (length turns) (letter_in turns)

-- The cubes of which a search speaks, its turns, and its goal.
abbrev pub cube_space : (CubeState → Type 0) → List ℕ → (CubeState → Type 0) → SearchSpace CubeState
cube_space IsValid turns IsGoal = record { IsValid = IsValid; after = after_of turns; IsGoal = IsGoal }
