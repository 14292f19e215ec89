-- The pruning tables: what each is a table of, and how far it may reach.
use Rattle.std.specs.Prelude.{ℕ, List, [], ◌∷◌, ◌++◌, map}
use Rattle.scr_combinatorics.specs.Permutations.{permutation_number}
use Rattle.scr_combinatorics.specs.Twists.{twists_number}
use Rattle.scr_positions.specs.Coordinates.{Coordinate}
use Rattle.scr_positions.specs.Products.{product_coordinate}
use Rattle.scr_coord.specs.Projections.{projection, twists_view, place_set_view, pieces_view}
use Rattle.scr_table.specs.declared.name.TableName.TheVariants.{FlipSlice, TwistSlice, CornerSlice, EdgeSlice}
use Rattle.scr_table.specs.Lines.{TableLine}
use Rattle.scr_cube.specs.Cube333.{CubeState}
use Rattle.scr_stages.specs.Stages.{middle_edges, domino_turns}
use Rattle.scr_stages.specs.Tables.{corners_by, edges_by, block_turn, outer_places, flips_coordinate}
use Rattle.scr_stages.specs.Tetrads.{in_block}
use Rattle.scr_cube.specs.ListedTurns.{turn_numbers}

-- ---- the first part, by all turns

-- the twists
abbrev pub twists_of : CubeState → ℕ
twists_of c = twists_number 3 c.corners.digits

abbrev pub twists_coordinate : Coordinate
twists_coordinate = projection (twists_view 8 3) (corners_by turn_numbers)

-- the set of the places of the edges of the middle layer
abbrev pub middle_set_coordinate : Coordinate
middle_set_coordinate = projection (place_set_view 12 4 middle_edges) (edges_by turn_numbers)

-- the flips, or the twists, beside that set
abbrev pub flipslice_coordinate : Coordinate
flipslice_coordinate = product_coordinate flips_coordinate middle_set_coordinate

abbrev pub twistslice_coordinate : Coordinate
twistslice_coordinate = product_coordinate twists_coordinate middle_set_coordinate

-- ---- the second part, by the turns that keep a domino

-- Of a domino: the lists of its corners, of the edges above and below, and of those of the middle layer.
abbrev pub corners_of : CubeState → ℕ
corners_of c = permutation_number c.corners.pieces

abbrev pub outer_edges_of : CubeState → ℕ
outer_edges_of c = permutation_number (in_block outer_places c.edges.pieces)

abbrev pub middle_edges_of : CubeState → ℕ
middle_edges_of c = permutation_number (in_block middle_edges c.edges.pieces)

abbrev pub corners_coordinate : Coordinate
corners_coordinate = projection (pieces_view 8) (corners_by domino_turns)

abbrev pub outer_edges_coordinate : Coordinate
outer_edges_coordinate = projection (pieces_view 8) (map (block_turn outer_places) (edges_by domino_turns))

abbrev pub middle_edges_coordinate : Coordinate
middle_edges_coordinate = projection (pieces_view 4) (map (block_turn middle_edges) (edges_by domino_turns))

-- the edges of the middle layer beside the corners, or beside the other edges
abbrev pub cornerslice_coordinate : Coordinate
cornerslice_coordinate = product_coordinate middle_edges_coordinate corners_coordinate

abbrev pub edgeslice_coordinate : Coordinate
edgeslice_coordinate = product_coordinate middle_edges_coordinate outer_edges_coordinate

-- ---- the tables

abbrev pub flipslice_line : TableLine
flipslice_line = record { name = FlipSlice; coordinate = flipslice_coordinate; bound = 12 }

abbrev pub twistslice_line : TableLine
twistslice_line = record { name = TwistSlice; coordinate = twistslice_coordinate; bound = 12 }

abbrev pub cornerslice_line : TableLine
cornerslice_line = record { name = CornerSlice; coordinate = cornerslice_coordinate; bound = 18 }

abbrev pub edgeslice_line : TableLine
edgeslice_line = record { name = EdgeSlice; coordinate = edgeslice_coordinate; bound = 18 }

-- those of the first part and those of the second, in the order in which they are built
abbrev pub first_lines : List TableLine
first_lines = flipslice_line ∷ twistslice_line ∷ []

abbrev pub second_lines : List TableLine
second_lines = cornerslice_line ∷ edgeslice_line ∷ []

abbrev pub prune_lines : List TableLine
prune_lines = first_lines ++ second_lines
