-- The tables that a list's events need are there.
use Rattle.std.specs.Prelude.{◌≡◌, Bool, List, Option, Some, IsSome, IfSome}
use Rattle.scr_notation.specs.declared.event.Event.{Event}
use Rattle.scr_notation.specs.declared.event.Event.TheVariants.{C222, C333, Pyram, Skewb as EventSkewb, Sq1}
use Rattle.scr_notation.specs.declared.event.Family.{Family}
use Rattle.scr_notation.specs.declared.event.Family.TheVariants.{Cube222, Cube333, Pyraminx, Skewb, Square1}
use Rattle.scr_notation.specs.declared.event.Puzzle.{Puzzle}
use Rattle.scr_notation.specs.Event.{family_of, puzzle_row_of}
use Rattle.scr_notation.specs.EventSets.{Has}
use Rattle.scr_small.specs.Tables.{BuiltTable}

-- One event of a set is of this family.
pub record HasFamily (events : List Bool) (family : Family) : Type 0 where
  pub event : Event
  pub has : Has events event
  pub of_family : family_of event ≡ Some family

-- one of what is scrambled so, where that needs tables
abbrev pub HasTablesOf : List Bool → Puzzle → Type 0
HasTablesOf events puzzle = IfSome (puzzle_row_of puzzle).family (HasFamily events)

-- Where a set has an event of this family, its tables are there.
abbrev pub HoldsTables : {Built : Type 0} → List Bool → Family → Option Built → Type 0
HoldsTables events family tables = HasFamily events family → IsSome tables

-- the first event of a family, by which its tables are told
abbrev pub own_event : Family → Event
own_event Cube222 = C222
own_event Cube333 = C333
own_event Pyraminx = Pyram
own_event Skewb = EventSkewb
own_event Square1 = Sq1

-- and where they are one table, it is that of this event
abbrev pub HoldsTable : List Bool → Family → Option BuiltTable → Type 0
HoldsTable events family tables = HoldsTables events family tables × IfSome tables (λ built. built.event ≡ own_event family)
