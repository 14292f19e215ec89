-- The puzzles that one table solves, each by the numbers of its states and of its turns, and their scrambles.
use Rattle.std.specs.Prelude.{◌≡◌, List, ◌++◌}
use Rattle.scr_positions.specs.Coordinates.{Coordinate}
use Rattle.scr_orbit.specs.Orbits.{Orbit}
use Rattle.scr_notation.specs.declared.turn.Turn.{Turn}
use Rattle.scr_table.specs.Lines.{TableLine}
use Rattle.scr_cube.specs.Cube222.{powers_222, numbered_222}
use Rattle.scr_tetra.specs.Pyraminx.{TetraminxState, tetraminx_powers, numbered_tetraminx, PyramState}
use Rattle.scr_tetra.specs.PyramParts.{tips_word}
use Rattle.scr_tetra.specs.Skewb.{SkewbState, skewb_powers, skewb_numbered}
use Rattle.scr_small.specs.NumberedPuzzles.{NumberedPuzzle, numbered_powers, state_coordinate, state_line}
use Rattle.scr_small.specs.FirstScrambles.{IsScrambleByPowers}
use Rattle.scr_small.specs.SearchTables.{corners_table, pyramid_table, skewb_table}

-- The 2x2x2: the turns U U2 U' R R2 R' F F2 F' have the numbers 0 to 8.
abbrev pub numbered_puzzle_222 : NumberedPuzzle Orbit Turn
numbered_puzzle_222 = numbered_powers numbered_222 powers_222

-- The Pyraminx without its tips: the large turns U U' L L' R R' B B' have the numbers 0 to 7.
abbrev pub numbered_puzzle_tetraminx : NumberedPuzzle TetraminxState Turn
numbered_puzzle_tetraminx = numbered_powers numbered_tetraminx tetraminx_powers

abbrev pub coordinate_tetraminx : Coordinate
coordinate_tetraminx = state_coordinate numbered_puzzle_tetraminx

-- The Skewb: the turns U U' L L' R R' B B' have the numbers 0 to 7.
abbrev pub numbered_puzzle_skewb : NumberedPuzzle SkewbState Turn
numbered_puzzle_skewb = numbered_powers skewb_numbered skewb_powers

-- Their tables, by the numbers of their states.
abbrev pub corners_line : TableLine
corners_line = state_line numbered_puzzle_222 corners_table.name corners_table.bound

abbrev pub pyramid_line : TableLine
pyramid_line = state_line numbered_puzzle_tetraminx pyramid_table.name pyramid_table.bound

abbrev pub skewb_line : TableLine
skewb_line = state_line numbered_puzzle_skewb skewb_table.name skewb_table.bound

-- The scrambles of a 2x2x2 and of a Skewb.
abbrev pub IsScramble222 : Orbit → List Turn → Type 0
IsScramble222 = IsScrambleByPowers powers_222

abbrev pub IsScrambleSkewb : SkewbState → List Turn → Type 0
IsScrambleSkewb = IsScrambleByPowers skewb_powers

-- The scramble of a Pyraminx: the first word of large turns that solves it without its tips, taken back, and then a
-- turn of each tip that stands turned, in the order u l r b.
pub record IsScramblePyram (s : PyramState) (turns : List Turn) : Type 0 where
  pub large : List Turn
  pub without_tips : IsScrambleByPowers tetraminx_powers s.body large
  pub with_tips : turns ≡ large ++ tips_word s.tips
