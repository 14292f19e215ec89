-- The events and their one table: how each is named, what is scrambled for it, and how many scrambles a group has; and
-- the one table of what is scrambled: what its turns are, how far from solved its states may be asked to be, and which
-- tables its scrambles are found by. (WCA Regulations, articles 9 and 12 for ids, names and turns, 4b3 and 9b for
-- scrambles; the range of minima, what is usual for a Square-1, and which nets are shown are our own choice.)
use Rattle.std.specs.Prelude.{ℕ, List, [], ◌∷◌, codes, Option, Some, None, find, Bool, true, false}
use Rattle.std.specs.Option.{option_map_or}
use Rattle.std.specs.Str.{bytes_eq}
use Rattle.scr_notation.specs.declared.event.Event.{Event}
use Rattle.scr_notation.specs.declared.event.Event.TheVariants.{C222, C333, Oh333, C555, C666, C777, Clock, Minx, Pyram, Skewb, Sq1, Bf333, Fm333}
use Rattle.scr_notation.specs.declared.event.Puzzle.{Puzzle}
use Rattle.scr_notation.specs.declared.event.Puzzle.TheVariants as puzzle
use Rattle.scr_notation.specs.declared.event.PuzzleRow.{PuzzleRow}
use Rattle.scr_notation.specs.declared.event.Kind.{Kind}
use Rattle.scr_notation.specs.declared.event.Kind.TheVariants.{Faces, Axes, LayersAndTwist, PinSets, WideTurns}
use Rattle.scr_notation.specs.declared.event.Minima.{Minima}
use Rattle.scr_notation.specs.declared.event.Family.{Family}
use Rattle.scr_notation.specs.declared.event.Family.TheVariants as family

-- the events, in the order of their numbers
abbrev pub events : List Event
events = C222 ∷ C333 ∷ Oh333 ∷ C555 ∷ C666 ∷ C777 ∷ Clock ∷ Minx ∷ Pyram ∷ Skewb ∷ Sq1 ∷ Bf333 ∷ Fm333 ∷ []

-- How lists and commands name an event, how a sheet names it, what is scrambled for it, and the scrambles of a group
-- without the two extra ones.
abbrev pub row_of : Event → List ℕ × List ℕ × Puzzle × ℕ
row_of C222 = (codes "222", codes "2x2x2 Cube", puzzle.Cube222, 5)
row_of C333 = (codes "333", codes "3x3x3 Cube", puzzle.Cube333, 5)
row_of Oh333 = (codes "333oh", codes "3x3x3 One-Handed", puzzle.Cube333, 5)
row_of C555 = (codes "555", codes "5x5x5 Cube", puzzle.Cube555, 5)
row_of C666 = (codes "666", codes "6x6x6 Cube", puzzle.Cube666, 3)
row_of C777 = (codes "777", codes "7x7x7 Cube", puzzle.Cube777, 3)
row_of Clock = (codes "clock", codes "Clock", puzzle.Clock, 5)
row_of Minx = (codes "minx", codes "Megaminx", puzzle.Megaminx, 5)
row_of Pyram = (codes "pyram", codes "Pyraminx", puzzle.Pyraminx, 5)
row_of Skewb = (codes "skewb", codes "Skewb", puzzle.Skewb, 5)
row_of Sq1 = (codes "sq1", codes "Square-1", puzzle.Square1, 5)
row_of Bf333 = (codes "333bf", codes "3x3x3 Blindfolded", puzzle.Held333, 3)
row_of Fm333 = (codes "333fm", codes "3x3x3 Fewest Moves", puzzle.Fewest333, 3)

-- What the turns of a puzzle are; the minima of its rounds, where its states are drawn and not its moves; the family of
-- its tables, if it has any; whether its states are tested by its table as they are drawn, and not by trying words; and
-- how many layers the cube has whose net is shown, if one is.
abbrev pub puzzle_row : Kind → Option Minima → Option Family → Bool → Option ℕ → PuzzleRow
puzzle_row kind minima family by_table side =
    record { kind = kind; minima = minima; family = family; tested_by_table = by_table; net_side = side }

-- minima up to the greatest, with the usual one
abbrev pub up_to : ℕ → ℕ → Option Minima
up_to greatest usual = Some (record { usual = usual; greatest = greatest })

abbrev pub puzzle_row_of : Puzzle → PuzzleRow
puzzle_row_of puzzle.Cube222 = puzzle_row (Faces 1 0) (up_to 11 4) (Some family.Cube222) true (Some 2)
puzzle_row_of puzzle.Cube333 = puzzle_row (Faces 1 1) (up_to 5 2) (Some family.Cube333) false (Some 3)
puzzle_row_of puzzle.Held333 = puzzle_row (Faces 2 1) (up_to 5 2) (Some family.Cube333) false None
puzzle_row_of puzzle.Fewest333 = puzzle_row (Faces 1 1) (up_to 5 2) (Some family.Cube333) false None
puzzle_row_of puzzle.Cube555 = puzzle_row (Faces 2 2) None None false (Some 5)
puzzle_row_of puzzle.Cube666 = puzzle_row (Faces 3 2) None None false (Some 6)
puzzle_row_of puzzle.Cube777 = puzzle_row (Faces 3 3) None None false (Some 7)
puzzle_row_of puzzle.Clock = puzzle_row PinSets (up_to 3 2) None false None
puzzle_row_of puzzle.Megaminx = puzzle_row WideTurns None None false None
puzzle_row_of puzzle.Pyraminx = puzzle_row (Axes true) (up_to 15 6) (Some family.Pyraminx) true None
puzzle_row_of puzzle.Skewb = puzzle_row (Axes false) (up_to 11 7) (Some family.Skewb) true None
puzzle_row_of puzzle.Square1 = puzzle_row LayersAndTwist (up_to 4 2) (Some family.Square1) false None

abbrev pub id_of : Event → List ℕ
id_of event = (row_of event).0

abbrev pub name_of : Event → List ℕ
name_of event = (row_of event).1

abbrev pub puzzle_of : Event → Puzzle
puzzle_of event = (row_of event).2

abbrev pub kind_of : Event → Kind
kind_of event = (puzzle_row_of (puzzle_of event)).kind

abbrev pub per_group_of : Event → ℕ
per_group_of event = (row_of event).3

abbrev pub minima_of : Event → Option Minima
minima_of event = (puzzle_row_of (puzzle_of event)).minima

abbrev pub family_of : Event → Option Family
family_of event = (puzzle_row_of (puzzle_of event)).family

abbrev pub is_tested_by_table : Event → Bool
is_tested_by_table event = (puzzle_row_of (puzzle_of event)).tested_by_table

abbrev pub net_side_of : Event → Option ℕ
net_side_of event = (puzzle_row_of (puzzle_of event)).net_side

-- the greatest minimum of a round; 0 where it has none
abbrev pub greatest_in : Option Minima → ℕ
greatest_in minima = option_map_or (λ m. m.greatest) minima 0

-- the minimum of a round that sets none
abbrev pub usual_in : Option Minima → ℕ
usual_in minima = option_map_or (λ m. m.usual) minima 0

abbrev pub greatest_of : Event → ℕ
greatest_of event = greatest_in (minima_of event)

abbrev pub usual_of : Event → ℕ
usual_of event = usual_in (minima_of event)

-- the event that has an id
abbrev pub event_of : List ℕ → Option Event
event_of id = find (λ e. bytes_eq (id_of e) id) events
