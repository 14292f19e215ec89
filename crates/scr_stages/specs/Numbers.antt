-- What the tables of the stages see of a cube, as numbers (after Thistlethwaite).
--
-- Edges are numbered 0 UR, 1 UF, 2 UL, 3 UB, 4 DR, 5 DF, 6 DL, 7 DB, 8 FR, 9 FL, 10 BL, 11 BR, places and pieces alike.
-- Half turns carry the edges of each of three blocks among their places.
use Rattle.std.specs.Prelude.{◌≡◌, ℕ, ◌+◌, ◌*◌, ◌/◌, ◌%◌, ◌<◌, List, [], ◌∷◌, ◌++◌, slice_index}
use Rattle.scr_combinatorics.specs.Lists.{pick}
use Rattle.scr_combinatorics.specs.Numbered.{Numbered, numbered_by_digits}
use Rattle.scr_combinatorics.specs.Permutations.{parity, permutation_number, permutation_at, half_at}
use Rattle.scr_combinatorics.specs.PlaceSets.{place_set_number}
use Rattle.scr_combinatorics.specs.Twists.{twists_number}
use Rattle.scr_orbit.specs.Orbits.{zeros}
use Rattle.scr_coord.specs.Projections.{marked_places, stands_in}
use Rattle.scr_cube.specs.Cube333.{CubeState, IsCube, solved_cube}
use Rattle.scr_stages.specs.Stages.{middle_edges, HasNoFlips, IsDomino}
use Rattle.scr_stages.specs.Tetrads.{arranged, corner_index, in_block, half_corners_number, half_corners_at}

-- ---- where the second and the third stage begin

pub record IsUnflippedCube (c : CubeState) : Type 0 where
  pub cube : IsCube c
  pub no_flips : HasNoFlips c

pub record IsDominoCube (c : CubeState) : Type 0 where
  pub cube : IsCube c
  pub domino : IsDomino c

-- ---- numbers

-- the flips
abbrev pub flips_number : CubeState → ℕ
flips_number c = twists_number 2 c.edges.digits

-- the set of the places of the edges of the middle layer
abbrev pub middle_set_of : CubeState → ℕ
middle_set_of c = place_set_number 12 (marked_places (stands_in middle_edges) c.edges.pieces)

-- the twists, and that set
abbrev pub slice_number : CubeState → ℕ
slice_number c = twists_number 3 c.corners.digits + 2187 * middle_set_of c

-- UR UL DR DL, and UF UB DF DB
abbrev pub first_edges : List ℕ
first_edges = 0 ∷ 2 ∷ 4 ∷ 6 ∷ []

abbrev pub second_edges : List ℕ
second_edges = 1 ∷ 3 ∷ 5 ∷ 7 ∷ []

-- Of a domino: the set of the places of the first edges among the eight places above and below, and the index of the
-- corners.
abbrev pub tetrads_number : CubeState → ℕ
tetrads_number c =
    place_set_number 8 (marked_places (stands_in first_edges) c.edges.pieces) + 70 * corner_index c.corners.pieces

-- ---- dominoes with the number of solved

pub record IsHalfCube (c : CubeState) : Type 0 where
  pub domino : IsDominoCube c
  pub index : tetrads_number c ≡ tetrads_number solved_cube

-- The half of the number of the middle edges, the numbers of the second and of the first edges, and that of the
-- corners. Of two lists of middle edges with one half the cube has the one that makes edges and corners both even or
-- both odd.
unfoldable pub half_digits : CubeState → List ℕ
half_digits c =
    permutation_number (in_block middle_edges c.edges.pieces) / 2
    ∷ permutation_number (in_block second_edges c.edges.pieces)
    ∷ permutation_number (in_block first_edges c.edges.pieces) ∷ half_corners_number c.corners.pieces ∷ []

-- edges with these lists of the three blocks
unfoldable pub edges_of_blocks : List ℕ → List ℕ → List ℕ → List ℕ
edges_of_blocks first second middle =
    arranged (first_edges ++ second_edges ++ middle_edges)
    (pick first_edges first ++ pick second_edges second ++ pick middle_edges middle)

-- the numbers of the three blocks of edges, and of the corners
pub record AreParts (c : CubeState) (middle second first corners : ℕ) : Type 0 where
  pub middle_is : middle ≡ permutation_number (in_block middle_edges c.edges.pieces)
  pub second_is : second ≡ permutation_number (in_block second_edges c.edges.pieces)
  pub first_is : first ≡ permutation_number (in_block first_edges c.edges.pieces)
  pub corners_is : corners ≡ half_corners_number c.corners.pieces

-- such numbers: of lists of four, and of a list of corners
pub record ArePartNumbers (middle second first corners : ℕ) : Type 0 where
  pub middle_below : middle < 24
  pub second_below : second < 24
  pub first_below : first < 24
  pub corners_below : corners < 96

-- The cube with these four numbers.
unfoldable pub half_cube_of_digits : List ℕ → CubeState
half_cube_of_digits ds =
    let corners = half_corners_at (slice_index ds 3) in
    let first = permutation_at 4 (slice_index ds 2) in
    let second = permutation_at 4 (slice_index ds 1) in
    let middle = half_at 4 ((parity corners + parity first + parity second) % 2) (slice_index ds 0) in
    record {
      corners = record { pieces = corners; digits = zeros 8 };
      edges = record { pieces = edges_of_blocks first second middle; digits = zeros 12 };
    }

-- These cubes by their numbers, with the cube of each.
abbrev pub half_cubes : Numbered CubeState
half_cubes = numbered_by_digits (12 ∷ 24 ∷ 24 ∷ 96 ∷ []) half_cube_of_digits half_digits IsHalfCube
