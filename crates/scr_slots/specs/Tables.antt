-- The tables that events need, and why they are not built.
use Rattle.std.specs.Prelude.{◌<◌, Bool, true, false, cond, List, [], ◌∷◌, ◌++◌, length, Option, Some}
use Rattle.std.specs.List.{list_any}
use Rattle.scr_notation.specs.declared.event.Event.{Event}
use Rattle.scr_notation.specs.declared.event.Family.{Family}
use Rattle.scr_notation.specs.declared.event.Family.TheVariants.{Cube222, Cube333, Pyraminx, Skewb, Square1}
use Rattle.scr_notation.specs.Event.{family_of}
use Rattle.scr_table.specs.declared.fault.BuildFault.{BuildFault}
use Rattle.scr_table.specs.SearchTables.{SearchTable, IsCauseAmong}
use Rattle.scr_small.specs.SearchTables.{corners_table, pyramid_table, skewb_table}
use Rattle.scr_stages.specs.SearchTables.{stage_tables}
use Rattle.scr_twophase.specs.SearchTables.{prune_tables}
use Rattle.scr_sq1tables.specs.SearchTables.{sq1_tables}

abbrev pub is_family : Family → Option Family → Bool
is_family Cube222 (Some Cube222) = true
is_family Cube333 (Some Cube333) = true
is_family Pyraminx (Some Pyraminx) = true
is_family Skewb (Some Skewb) = true
is_family Square1 (Some Square1) = true
is_family _ _ = false

-- one of these events is of the family
abbrev pub asks_for : List Event → Family → Bool
asks_for events family = list_any (λ event. is_family family (family_of event)) events

-- the tables of a family, in the order in which they are built and printed
unfoldable pub family_tables : Family → List SearchTable
family_tables Cube222 = corners_table ∷ []
family_tables Cube333 = stage_tables ++ prune_tables
family_tables Pyraminx = pyramid_table ∷ []
family_tables Skewb = skewb_table ∷ []
family_tables Square1 = sq1_tables

-- where one of these events is of it
abbrev pub tables_asked : List Event → Family → List SearchTable
tables_asked events family = cond (asks_for events family) (family_tables family) []

-- The tables that events need, each once: those of one family after another.
abbrev pub tables_for : List Event → List SearchTable
tables_for events =
    tables_asked events Cube222 ++ (tables_asked events Cube333 ++ (tables_asked events Pyraminx
    ++ (tables_asked events Skewb ++ tables_asked events Square1)))

-- the event needs a table
abbrev pub HasTables : Event → Type 0
HasTables event = 0 < length (tables_for (event ∷ []))

-- Why the tables of these events are not built: the first of them that has a gap has it there, or memory was wanting.
abbrev pub IsBuildCause : List Event → BuildFault → Type 0
IsBuildCause events fault = IsCauseAmong (tables_for events) fault
