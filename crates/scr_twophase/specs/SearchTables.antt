-- The pruning tables, as told by the cubes of which they speak, by a number that they see of each.
use Rattle.std.specs.Prelude.{◌≡◌, ◌+◌, ◌*◌, List, [], ◌∷◌}
use Rattle.scr_combinatorics.specs.Lists.{numbers_from}
use Rattle.scr_table.specs.declared.name.TableName.TheVariants.{FlipSlice, TwistSlice, CornerSlice, EdgeSlice}
use Rattle.scr_table.specs.SearchTables.{SearchTable, table_over}
use Rattle.scr_stages.specs.Stages.{HasNoFlips, IsUntwisted, IsInMiddle}
use Rattle.scr_stages.specs.Numbers.{flips_number, slice_number, middle_set_of}
use Rattle.scr_stages.specs.Tables.{outer_places}
use Rattle.scr_stages.specs.Tetrads.{in_block}
use Rattle.scr_twophase.specs.Spaces.{cubes_to, dominoes_to, AreMiddleHome}
use Rattle.scr_twophase.specs.Tables.{corners_of, outer_edges_of, middle_edges_of}

-- Of all cubes, beside 495 sets of places of the edges of the middle layer: by 2,048 flips or 2,187 twists.
abbrev pub flipslice_table : SearchTable
flipslice_table =
    table_over FlipSlice (cubes_to (λ c. HasNoFlips c × IsInMiddle c))
    (λ c. flips_number c + 2048 * middle_set_of c) 1013760 12

abbrev pub twistslice_table : SearchTable
twistslice_table = table_over TwistSlice (cubes_to (λ c. IsUntwisted c × IsInMiddle c)) slice_number 1082565 12

-- Of dominoes, beside 24 lists of these edges: by 40,320 lists of corners or of the other edges.
abbrev pub cornerslice_table : SearchTable
cornerslice_table =
    table_over CornerSlice (dominoes_to (λ c. AreMiddleHome c × (c.corners.pieces ≡ numbers_from 0 8)))
    (λ c. middle_edges_of c + 24 * corners_of c) 967680 18

abbrev pub edgeslice_table : SearchTable
edgeslice_table =
    table_over EdgeSlice (dominoes_to (λ c. AreMiddleHome c × (in_block outer_places c.edges.pieces ≡ numbers_from 0 8)))
    (λ c. middle_edges_of c + 24 * outer_edges_of c) 967680 18

-- in the order in which they are built
abbrev pub prune_tables : List SearchTable
prune_tables = flipslice_table ∷ twistslice_table ∷ cornerslice_table ∷ edgeslice_table ∷ []
