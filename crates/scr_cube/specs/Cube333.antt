-- A 3x3x3 as its corners and edges, its turns (WCA Regulations, article 12), and its number.
--
-- Corners are numbered 0 URF, 1 UFL, 2 ULB, 3 UBR, 4 DFR, 5 DLF, 6 DBL, 7 DRB, and edges 0 UR, 1 UF, 2 UL, 3 UB, 4 DR,
-- 5 DF, 6 DL, 7 DB, 8 FR, 9 FL, 10 BL, 11 BR, places and pieces alike (after Kociemba). A corner's twist is how many
-- thirds clockwise its U or D sticker stands from the U or D side. An edge's flip is 1 where it takes an odd number of
-- quarter turns of F and B to bring the edge to its place as it stands in the solved cube.
use Rattle.std.specs.Prelude.{◌≡◌, ℕ, ◌/◌, List, [], ◌∷◌, map, slice_index}
use Rattle.std.specs.List.{zip}
use Rattle.scr_combinatorics.specs.Permutations.{parity, permutation_number, permutation_at, half_at}
use Rattle.scr_combinatorics.specs.Twists.{twists_number, twists_at}
use Rattle.scr_combinatorics.specs.Numbered.{Numbers, numbers_by_digits, Numbered, numbered_by_digits}
use Rattle.scr_orbit.specs.Monoids.{Monoid}
use Rattle.scr_orbit.specs.Orbits.{Orbit, IsZeroSumOrbit, turned_orbit, zeros, solved_orbit}
use Rattle.scr_orbit.specs.PowerPuzzles.{PowerPuzzle}
use Rattle.scr_notation.specs.declared.turn.Turn.{Turn}
use Rattle.scr_notation.specs.FaceLetters.{letters_of_faces}

-- The corners with their twists, and the edges with their flips.
pub record CubeState : Type 0 where
  pub corners : Orbit
  pub edges : Orbit

-- A cube that can be put together without taking one apart: twists sum to 0 modulo 3, flips to 0 modulo 2, and corners
-- and edges are both even or both odd.
pub record IsCube (c : CubeState) : Type 0 where
  pub corners : IsZeroSumOrbit 8 3 c.corners
  pub edges : IsZeroSumOrbit 12 2 c.edges
  pub same_parity : parity c.corners.pieces ≡ parity c.edges.pieces

-- ---- turns, each told by what it makes of the solved cube

-- The quarter turns of U, R, F, D, L and B: which place's corner comes to each place, and what is added to its twist.
abbrev pub corner_quarters : List Orbit
corner_quarters =
    record { pieces = 3 ∷ 0 ∷ 1 ∷ 2 ∷ 4 ∷ 5 ∷ 6 ∷ 7 ∷ []; digits = zeros 8 }
    ∷ record { pieces = 4 ∷ 1 ∷ 2 ∷ 0 ∷ 7 ∷ 5 ∷ 6 ∷ 3 ∷ []; digits = 2 ∷ 0 ∷ 0 ∷ 1 ∷ 1 ∷ 0 ∷ 0 ∷ 2 ∷ [] }
    ∷ record { pieces = 1 ∷ 5 ∷ 2 ∷ 3 ∷ 0 ∷ 4 ∷ 6 ∷ 7 ∷ []; digits = 1 ∷ 2 ∷ 0 ∷ 0 ∷ 2 ∷ 1 ∷ 0 ∷ 0 ∷ [] }
    ∷ record { pieces = 0 ∷ 1 ∷ 2 ∷ 3 ∷ 5 ∷ 6 ∷ 7 ∷ 4 ∷ []; digits = zeros 8 }
    ∷ record { pieces = 0 ∷ 2 ∷ 6 ∷ 3 ∷ 4 ∷ 1 ∷ 5 ∷ 7 ∷ []; digits = 0 ∷ 1 ∷ 2 ∷ 0 ∷ 0 ∷ 2 ∷ 1 ∷ 0 ∷ [] }
    ∷ record { pieces = 0 ∷ 1 ∷ 3 ∷ 7 ∷ 4 ∷ 5 ∷ 2 ∷ 6 ∷ []; digits = 0 ∷ 0 ∷ 1 ∷ 2 ∷ 0 ∷ 0 ∷ 2 ∷ 1 ∷ [] }
    ∷ []

-- The same of the edges, with what is added to their flips.
abbrev pub edge_quarters : List Orbit
edge_quarters =
    record { pieces = 3 ∷ 0 ∷ 1 ∷ 2 ∷ 4 ∷ 5 ∷ 6 ∷ 7 ∷ 8 ∷ 9 ∷ 10 ∷ 11 ∷ []; digits = zeros 12 }
    ∷ record { pieces = 8 ∷ 1 ∷ 2 ∷ 3 ∷ 11 ∷ 5 ∷ 6 ∷ 7 ∷ 4 ∷ 9 ∷ 10 ∷ 0 ∷ []; digits = zeros 12 }
    ∷ record { pieces = 0 ∷ 9 ∷ 2 ∷ 3 ∷ 4 ∷ 8 ∷ 6 ∷ 7 ∷ 1 ∷ 5 ∷ 10 ∷ 11 ∷ []; digits = 0 ∷ 1 ∷ 0 ∷ 0 ∷ 0 ∷ 1 ∷ 0 ∷ 0 ∷ 1 ∷ 1 ∷ 0 ∷ 0 ∷ [] }
    ∷ record { pieces = 0 ∷ 1 ∷ 2 ∷ 3 ∷ 5 ∷ 6 ∷ 7 ∷ 4 ∷ 8 ∷ 9 ∷ 10 ∷ 11 ∷ []; digits = zeros 12 }
    ∷ record { pieces = 0 ∷ 1 ∷ 10 ∷ 3 ∷ 4 ∷ 5 ∷ 9 ∷ 7 ∷ 8 ∷ 2 ∷ 6 ∷ 11 ∷ []; digits = zeros 12 }
    ∷ record { pieces = 0 ∷ 1 ∷ 2 ∷ 11 ∷ 4 ∷ 5 ∷ 6 ∷ 10 ∷ 8 ∷ 9 ∷ 3 ∷ 7 ∷ []; digits = 0 ∷ 0 ∷ 0 ∷ 1 ∷ 0 ∷ 0 ∷ 0 ∷ 1 ∷ 0 ∷ 0 ∷ 1 ∷ 1 ∷ [] }
    ∷ []

-- Both at once.
abbrev pub cube_quarters : List CubeState
cube_quarters = map (λ r. record { corners = r.0; edges = r.1 }) (zip corner_quarters edge_quarters)

unfoldable pub solved_cube : CubeState
solved_cube = record { corners = solved_orbit 8; edges = solved_orbit 12 }

-- Each corner place gets the corner from the place that the turn has there, and both twists are added; so do the edge
-- places, with both flips.
abbrev pub cube_monoid : Monoid CubeState
cube_monoid = record {
  turned = λ c r. record { corners = turned_orbit 3 c.corners r.corners; edges = turned_orbit 2 c.edges r.edges };
  solved = solved_cube;
}

-- The 3x3x3 as data. Its 18 turns are U U2 U' R R2 R' F F2 F' D D2 D' L L2 L' B B2 B', in the order of their numbers.
abbrev pub cube_powers : PowerPuzzle CubeState Turn
cube_powers = record { letters = letters_of_faces; monoid = cube_monoid; generators = cube_quarters }

-- ---- numbers

-- The numbers of a cube's flips, of its twists, of its list of corners, and the half of the number of its list of
-- edges. Of two lists of edges with one half the cube has the one with the corners' parity.
unfoldable pub cube_digits : CubeState → List ℕ
cube_digits c =
    twists_number 2 c.edges.digits ∷ twists_number 3 c.corners.digits ∷ permutation_number c.corners.pieces
    ∷ permutation_number c.edges.pieces / 2 ∷ []

-- The numbered cubes, 43,252,003,274,489,856,000 of them, for there are 2,048 lists of flips, 2,187 of twists, 40,320
-- of corners, and 239,500,800 of edges of one parity: the number of the flips is the least digit.
abbrev pub cube_numbers : Numbers CubeState
cube_numbers = numbers_by_digits (2048 ∷ 2187 ∷ 40320 ∷ 239500800 ∷ []) cube_digits IsCube

-- The cube with these four numbers.
unfoldable pub cube_of_digits : List ℕ → CubeState
cube_of_digits ds =
    let corners = permutation_at 8 (slice_index ds 2) in
    record {
      corners = record { pieces = corners; digits = twists_at 8 3 (slice_index ds 1) };
      edges = record {
        pieces = half_at 12 (parity corners) (slice_index ds 3);
        digits = twists_at 12 2 (slice_index ds 0);
      };
    }

-- and with the state of each number
abbrev pub cube_numbered : Numbered CubeState
cube_numbered = numbered_by_digits (2048 ∷ 2187 ∷ 40320 ∷ 239500800 ∷ []) cube_of_digits cube_digits IsCube
