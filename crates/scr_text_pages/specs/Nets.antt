-- Which nets stand on pages of text: of cubes alone, where they are asked for, as `write_net` of `scr_net` writes them.
use Rattle.std.specs.Prelude.{ℕ, Bool, if◌then◌else◌, Option, Some, None, List, []}
use Rattle.std.specs.Option.{option_map_or}
use Rattle.scr_combinatorics.specs.Play.{play}
use Rattle.scr_notation.specs.declared.event.Puzzle.{Puzzle}
use Rattle.scr_notation.specs.declared.event.Puzzle.TheVariants as puzzle
use Rattle.scr_notation.specs.declared.turn.Turn.{Turn}
use Rattle.scr_notation.specs.Event.{puzzle_of}
use Rattle.scr_notation.specs.Written.{Written}
use Rattle.scr_net.specs.Nets.{net_after, solved_net}
use Rattle.scr_net.specs.NetText.{net_lines}

-- how many layers a puzzle has that is a cube
abbrev pub side_of : Puzzle → Option ℕ
side_of puzzle.Cube222 = Some 2
side_of puzzle.Cube333 = Some 3
side_of puzzle.Held333 = Some 3
side_of puzzle.Fewest333 = Some 3
side_of puzzle.Cube555 = Some 5
side_of puzzle.Cube666 = Some 6
side_of puzzle.Cube777 = Some 7
side_of puzzle.Clock = None
side_of puzzle.Megaminx = None
side_of puzzle.Pyraminx = None
side_of puzzle.Skewb = None
side_of puzzle.Square1 = None

-- the lines of the net of a cube with so many layers after turns, if it has these turns
abbrev pub played_lines : List Turn → ℕ → List (List ℕ)
played_lines turns side = option_map_or (net_lines side) (play (net_after side) (solved_net side) turns) []

-- the lines of the net below a scramble
abbrev pub lines_below : Written → List (List ℕ)
lines_below scramble = option_map_or (played_lines scramble.turns) (side_of (puzzle_of scramble.event)) []

abbrev pub nets : Bool → Written → List (List ℕ)
nets pictures scramble = if pictures then lines_below scramble else []
