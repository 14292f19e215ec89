-- What the pruning tables see goes along with turns.
use Rattle.std.proofs.Common.{◌≡◌, ℕ, ◌+◌, ◌*◌, refl}
use Rattle.scr_combinatorics.specs.Lists.{numbers_from}
use Rattle.scr_orbit.specs.Orbits.{turned_orbit}
use Rattle.scr_positions.specs.Coordinates.{Coordinate}
use Rattle.scr_positions.specs.Products.{product_coordinate}
use Rattle.scr_positions.specs.SearchSpaces.{positions, Follows}
use Rattle.scr_positions.proofs.ProductLaws.{Follows-product}
use Rattle.scr_coord.specs.Projections.{pieces_view}
use Rattle.scr_cube.specs.Cube333.{CubeState, IsCube}
use Rattle.scr_stages.specs.Stages.{HasNoFlips, IsUntwisted, IsInMiddle, middle_edges, domino_turns}
use Rattle.scr_cube.specs.ListedTurns.{after_of, turn_numbers}
use Rattle.scr_stages.specs.Numbers.{flips_number, middle_set_of, IsDominoCube}
use Rattle.scr_stages.specs.Tables.{outer_places, flips_coordinate}
use Rattle.scr_stages.specs.Tetrads.{in_block}
use Rattle.scr_coord.proofs.ListViews.{IsListView-pieces}
use Rattle.scr_stages.proofs.DominoLaws.{IsPlaceSet-middle, IsPlaceSet-outer_places, outer-kept}
use Rattle.scr_stages.proofs.StageSpaces.{tetrads_moves, Follows-flips, Follows-twists_by, Follows-middle_by, Follows-twists_beside, Follows-block}
use Rattle.scr_stages.proofs.TurnFacts.{flips_numbers}
use Rattle.scr_stages.proofs.ViewLaws.{Follows-listed}
use Rattle.scr_twophase.specs.Spaces.{cubes_to, dominoes_to, AreMiddleHome}
use Rattle.scr_twophase.specs.SearchTables.{flipslice_table, twistslice_table, cornerslice_table, edgeslice_table}
use Rattle.scr_twophase.specs.Tables.{twists_of, twists_coordinate, middle_set_coordinate, flipslice_coordinate, twistslice_coordinate, corners_of, outer_edges_of, middle_edges_of, corners_coordinate, outer_edges_coordinate, middle_edges_coordinate, cornerslice_coordinate, edgeslice_coordinate}

-- ---- the first part

pub Follows-twists : Follows (cubes_to IsUntwisted) (positions twists_coordinate) twists_of
Follows-twists = Follows-twists_by turn_numbers flips_numbers

pub Follows-middle_set : Follows (cubes_to IsInMiddle) (positions middle_set_coordinate) middle_set_of
Follows-middle_set = Follows-middle_by turn_numbers flips_numbers

pub Follows-flipslice : Follows flipslice_table.space (positions flipslice_coordinate) flipslice_table.number_of
Follows-flipslice =
    Follows-product IsCube HasNoFlips IsInMiddle (after_of turn_numbers) flips_coordinate middle_set_coordinate flips_number middle_set_of refl Follows-flips Follows-middle_set

pub Follows-twistslice : Follows twistslice_table.space (positions twistslice_coordinate) twistslice_table.number_of
Follows-twistslice = Follows-twists_beside turn_numbers flips_numbers

-- ---- the second part

-- the corners, and the edges above and below, stand in order
abbrev pub AreCornersHome : CubeState → Type 0
AreCornersHome c = c.corners.pieces ≡ numbers_from 0 8

abbrev pub AreOuterHome : CubeState → Type 0
AreOuterHome c = in_block outer_places c.edges.pieces ≡ numbers_from 0 8

pub Follows-corners : Follows (dominoes_to AreCornersHome) (positions corners_coordinate) corners_of
unfolding turned_orbit
Follows-corners =
    Follows-listed tetrads_moves (pieces_view 8) (IsListView-pieces 8) (λ r. r.corners) (λ c. c.corners.pieces) (λ c h. h.cube.corners.pieces) (λ c r h t. refl)

pub Follows-outer_edges : Follows (dominoes_to AreOuterHome) (positions outer_edges_coordinate) outer_edges_of
Follows-outer_edges = Follows-block domino_turns tetrads_moves (λ c h. h.cube) 8 outer_places IsPlaceSet-outer_places outer-kept

pub Follows-middle_edges : Follows (dominoes_to AreMiddleHome) (positions middle_edges_coordinate) middle_edges_of
Follows-middle_edges =
    Follows-block domino_turns tetrads_moves (λ c h. h.cube) 4 middle_edges IsPlaceSet-middle (λ c h. h.domino.middle)

-- the edges of the middle layer beside something else
Follows-beside_middle : (high : Coordinate) (u : CubeState → ℕ) (IsHigh : CubeState → Type 0) → high.turns ≡ 10
    → Follows (dominoes_to IsHigh) (positions high) u
    → Follows (dominoes_to (λ c. AreMiddleHome c × IsHigh c)) (positions (product_coordinate middle_edges_coordinate high)) (λ c. middle_edges_of c + 24 * u c)
Follows-beside_middle high u IsHigh turns follows =
    Follows-product IsDominoCube AreMiddleHome IsHigh (after_of domino_turns) middle_edges_coordinate high middle_edges_of u turns Follows-middle_edges follows

pub Follows-cornerslice : Follows cornerslice_table.space (positions cornerslice_coordinate) cornerslice_table.number_of
Follows-cornerslice = Follows-beside_middle corners_coordinate corners_of AreCornersHome refl Follows-corners

pub Follows-edgeslice : Follows edgeslice_table.space (positions edgeslice_coordinate) edgeslice_table.number_of
Follows-edgeslice = Follows-beside_middle outer_edges_coordinate outer_edges_of AreOuterHome refl Follows-outer_edges
