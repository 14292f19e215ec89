-- The tables of the stages: what each is a table of, and how far it may reach.
use Rattle.std.specs.Prelude.{ℕ, List, [], ◌∷◌, map, slice_index_or}
use Rattle.scr_combinatorics.specs.Lists.{numbers_from, pick}
use Rattle.scr_orbit.specs.Orbits.{Orbit}
use Rattle.scr_orbit.specs.PowerPuzzles.{all_turns}
use Rattle.scr_positions.specs.Coordinates.{Coordinate}
use Rattle.scr_positions.specs.Indexes.{numbered_coordinate}
use Rattle.scr_positions.specs.Products.{product_coordinate}
use Rattle.scr_coord.specs.Projections.{projection, twists_view, place_set_view, pieces_view}
use Rattle.scr_table.specs.declared.name.TableName.TheVariants.{Flips, Slice, Tetrads, Halves}
use Rattle.scr_table.specs.Lines.{TableLine}
use Rattle.scr_cube.specs.Cube333.{CubeState, cube_powers, solved_cube}
use Rattle.scr_stages.specs.Stages.{middle_edges, half_turns, flips_stage, slice_stage, tetrads_stage, halves_stage, slice_turns, domino_turns}
use Rattle.scr_cube.specs.ListedTurns.{after_of, turn_numbers}
use Rattle.scr_stages.specs.Tetrads.{in_block, tetrads_view, half_corners_view}
use Rattle.scr_stages.specs.Numbers.{first_edges, half_cubes}

-- what the turns with these numbers do, to corners and to edges
abbrev pub turns_of : List ℕ → List CubeState
turns_of numbers = map (λ t. slice_index_or (all_turns cube_powers) t solved_cube) numbers

abbrev pub corners_by : List ℕ → List Orbit
corners_by numbers = map (λ r. r.corners) (turns_of numbers)

abbrev pub edges_by : List ℕ → List Orbit
edges_by numbers = map (λ r. r.edges) (turns_of numbers)

-- what a turn does to the pieces at the places of a block, which it carries among these
abbrev pub block_turn : List ℕ → Orbit → Orbit
block_turn block r = record { pieces = in_block block r.pieces; digits = pick r.digits block }

-- what turns with these numbers do so, of a list of turns
abbrev pub block_turns : List ℕ → List Orbit → List ℕ → List Orbit
block_turns block turns numbers =
    map (λ t. block_turn block (slice_index_or turns t (record { pieces = []; digits = [] }))) numbers

-- The flips.
abbrev pub flips_coordinate : Coordinate
flips_coordinate = projection (twists_view 12 2) (edges_by turn_numbers)

-- The twists, beside the places of the edges of the middle layer.
abbrev pub slice_coordinate : Coordinate
slice_coordinate =
    product_coordinate (projection (twists_view 8 3) (corners_by slice_turns))
    (projection (place_set_view 12 4 middle_edges) (edges_by slice_turns))

-- The places of the first edges among the eight above and below, beside the indexes of the corners.
abbrev pub outer_places : List ℕ
outer_places = numbers_from 0 8

abbrev pub tetrads_coordinate : Coordinate
tetrads_coordinate =
    product_coordinate
    (projection (place_set_view 8 4 first_edges) (map (block_turn outer_places) (edges_by domino_turns)))
    (projection tetrads_view (corners_by domino_turns))

-- The cubes that half turns solve.
abbrev pub halves_coordinate : Coordinate
halves_coordinate = numbered_coordinate half_cubes 6 (after_of half_turns) solved_cube

-- Its parts, over which the half turns go side by side: the corners, and each of the three blocks of edges.
abbrev pub half_corners_coordinate : Coordinate
half_corners_coordinate = projection half_corners_view (corners_by half_turns)

abbrev pub half_block_coordinate : List ℕ → Coordinate
half_block_coordinate block = projection (pieces_view 4) (map (block_turn block) (edges_by half_turns))

-- ---- the tables

abbrev pub flips_line : TableLine
flips_line = record { name = Flips; coordinate = flips_coordinate; bound = flips_stage.bound }

abbrev pub slice_line : TableLine
slice_line = record { name = Slice; coordinate = slice_coordinate; bound = slice_stage.bound }

abbrev pub tetrads_line : TableLine
tetrads_line = record { name = Tetrads; coordinate = tetrads_coordinate; bound = tetrads_stage.bound }

abbrev pub halves_line : TableLine
halves_line = record { name = Halves; coordinate = halves_coordinate; bound = halves_stage.bound }

-- in the order in which they are built
abbrev pub stage_lines : List TableLine
stage_lines = flips_line ∷ slice_line ∷ tetrads_line ∷ halves_line ∷ []
