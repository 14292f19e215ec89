-- The tables of the puzzles that one table solves.
use Rattle.std.specs.Prelude.{◌≡◌, ℕ, ◌+◌, List, Option, Some, None, slice_index}
use Rattle.std.specs.Option.{option_to_list}
use Rattle.scr_notation.specs.declared.event.Event.{Event}
use Rattle.scr_notation.specs.declared.event.Event.TheVariants.{C222, Pyram, Skewb}
use Rattle.scr_notation.specs.declared.event.Family.{Family}
use Rattle.scr_notation.specs.declared.event.Family.TheVariants as family
use Rattle.scr_notation.specs.Event.{family_of}
use Rattle.scr_table.specs.Distances.{Distances}
use Rattle.scr_table.specs.Lines.{TableLine, IsTableOf}
use Rattle.scr_tetra.specs.PyramParts.{turned_count}
use Rattle.scr_tetra.specs.Pyraminx.{PyramState, numbered_tetraminx}
use Rattle.scr_small.specs.declared.state_table.StateTable.{StateTable}
use Rattle.scr_small.specs.NumberedPuzzles.{NumberedPuzzle, state_line}
use Rattle.scr_small.specs.Puzzles.{corners_line, pyramid_line, skewb_line}

-- The tables of the puzzles over two parts of their states: of the 2x2x2 the 3^6 twists, and the 7! lists of corners;
-- of the Pyraminx 81 digits of axial pieces beside 32 flips, and the 6!/2 even lists of edges; of the Skewb 81 twists
-- of the four, 9 of the three and 12 even lists of the four, and the 6!/2 even lists of the centres.
abbrev pub state_table_222 : StateTable
state_table_222 = record { event = C222; name = corners_line.name; bound = corners_line.bound; low = 729; high = 5040 }

abbrev pub state_table_tetraminx : StateTable
state_table_tetraminx =
    record { event = Pyram; name = pyramid_line.name; bound = pyramid_line.bound; low = 2592; high = 360 }

abbrev pub state_table_skewb : StateTable
state_table_skewb = record { event = Skewb; name = skewb_line.name; bound = skewb_line.bound; low = 8748; high = 360 }

-- such a table as a line
abbrev pub table_line : {S T : Type 0} → NumberedPuzzle S T → StateTable → TableLine
table_line p table = state_line p table.name table.bound

-- The table of a family of events, where one table solves its states.
abbrev pub family_line : Option Family → Option TableLine
family_line None = None
family_line (Some family.Cube222) = Some corners_line
family_line (Some family.Cube333) = None
family_line (Some family.Pyraminx) = Some pyramid_line
family_line (Some family.Skewb) = Some skewb_line
family_line (Some family.Square1) = None

-- and so of an event
abbrev pub small_line : Event → Option TableLine
small_line event = family_line (family_of event)

-- the lines of its tables: the one, or none
abbrev pub small_lines : Event → List TableLine
small_lines event = option_to_list (small_line event)

-- Built tables as callers see them: whose they are, and what stands in the one table.
pub record BuiltTable : Type 0 where
  pub event : Event
  pub distances : Distances

-- what stands in the table at a position
abbrev pub entry_at : BuiltTable → ℕ → ℕ
entry_at built position = slice_index built.distances.distances position

-- of a Pyraminx that of the state without its tips, and one for each tip that stands turned
abbrev pub pyram_entry : BuiltTable → PyramState → ℕ
pyram_entry built s = entry_at built (numbered_tetraminx.number_of s.body) + turned_count s.tips

-- It is the table of its event.
pub record IsBuilt (built : BuiltTable) : Type 0 where
  pub line : TableLine
  pub of_event : small_line built.event ≡ Some line
  pub table : IsTableOf line built.distances
