-- The tables of the stages, as told by the cubes of which they speak, by a number that they see of each.
use Rattle.std.specs.Prelude.{◌≡◌, List, [], ◌∷◌}
use Rattle.scr_combinatorics.specs.Digits.{mixed_number}
use Rattle.scr_cube.specs.Cube333.{IsCube, solved_cube}
use Rattle.scr_table.specs.declared.name.TableName.TheVariants.{Flips, Slice, Tetrads, Halves}
use Rattle.scr_table.specs.SearchTables.{SearchTable, table_over}
use Rattle.scr_stages.specs.Stages.{slice_turns, domino_turns, half_turns, HasNoFlips, IsUntwisted, IsInMiddle}
use Rattle.scr_stages.specs.Stages.{flips_stage, slice_stage, tetrads_stage, halves_stage}
use Rattle.scr_stages.specs.Numbers.{IsDominoCube, IsHalfCube, flips_number, slice_number, tetrads_number, half_digits}
use Rattle.scr_cube.specs.ListedTurns.{cube_space, turn_numbers}

-- Of all valid cubes: by flips, of twelve edges, each told by the others;
abbrev pub flips_table : SearchTable
flips_table = table_over Flips (cube_space IsCube turn_numbers HasNoFlips) flips_number 2048 flips_stage.bound

-- by the twists, of which there are 2,187, beside the places of the four edges of the middle layer, 495 sets of them.
abbrev pub slice_table : SearchTable
slice_table =
    table_over Slice (cube_space IsCube slice_turns (λ c. IsUntwisted c × IsInMiddle c))
    slice_number 1082565 slice_stage.bound

-- Of dominoes: by 70 sets of places of edges, beside 420 indexes of corners.
abbrev pub tetrads_table : SearchTable
tetrads_table =
    table_over Tetrads (cube_space IsDominoCube domino_turns (λ c. tetrads_number c ≡ tetrads_number solved_cube))
    tetrads_number 29400 tetrads_stage.bound

-- Of the dominoes that have the index of solved in `tetrads`: by the cube itself, for there are 12 lists of middle
-- edges of one parity, 24 of second edges, 24 of first edges, and 96 of corners.
abbrev pub halves_table : SearchTable
halves_table =
    table_over Halves (cube_space IsHalfCube half_turns (λ c. c ≡ solved_cube))
    (λ c. mixed_number (12 ∷ 24 ∷ 24 ∷ 96 ∷ []) (half_digits c)) 663552 halves_stage.bound

-- in the order in which they are built
abbrev pub stage_tables : List SearchTable
stage_tables = flips_table ∷ slice_table ∷ tetrads_table ∷ halves_table ∷ []
