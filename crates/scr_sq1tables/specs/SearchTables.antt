-- The tables of the Square-1, as told by the states of which they speak, by a number that they see of each.
use Rattle.std.specs.Prelude.{List, [], ◌∷◌}
use Rattle.scr_table.specs.declared.name.TableName.TheVariants.{Shapes, Pairings, Square}
use Rattle.scr_table.specs.SearchTables.{SearchTable, table_over}
use Rattle.scr_table.specs.StageSpaces.{stage_space}
use Rattle.scr_sq1.specs.Units.{IsSq1, sq1_after}
use Rattle.scr_sq1tables.specs.Stages.{shape_stage, pairing_stage, home_stage}
use Rattle.scr_sq1tables.specs.Spaces.{IsNormalSq1, IsPairedSq1}
use Rattle.scr_sq1tables.specs.Tables.{shapes_index, pairings_index, square_index}

-- Of all valid states: by 3,678 shapes, each with both parities.
abbrev pub shapes_table : SearchTable
shapes_table = table_over Shapes (stage_space sq1_after shape_stage IsSq1) shapes_index 7356 shape_stage.bound

-- Of the normal ones: by 105 pairings of corners beside as many of edges.
abbrev pub pairings_table : SearchTable
pairings_table =
    table_over Pairings (stage_space sq1_after pairing_stage IsNormalSq1) pairings_index 11025 pairing_stage.bound

-- Of those among them in which mates stand opposite to each other: by which pair of mates is where, 24 lists of corners
-- and of edges, and which of each is first, 16 and 8 ways.
abbrev pub square_table : SearchTable
square_table = table_over Square (stage_space sq1_after home_stage IsPairedSq1) square_index 73728 home_stage.bound

-- in the order in which they are built
abbrev pub sq1_tables : List SearchTable
sq1_tables = shapes_table ∷ pairings_table ∷ square_table ∷ []
