-- The two parts by which a 3x3x3 is solved (after Kociemba's two-phase algorithm), and the scramble that they give.
--
-- A turn is told by its number: U U2 U' R R2 R' F F2 F' D D2 D' L L2 L' B B2 B' are 0 to 17.
use Rattle.std.specs.Prelude.{◌≡◌, ℕ, ◌%◌, ◌==◌, ◌&&◌, not, Bool, List, ◌++◌, map, take, filter, find, slice_get, Option, MatchOption}
use Rattle.std.specs.List.{filter_map}
use Rattle.std.specs.Str.{bytes_eq}
use Rattle.scr_combinatorics.specs.Lists.{numbers_from}
use Rattle.scr_combinatorics.specs.Back.{back}
use Rattle.scr_orbit.specs.Orbits.{zeros}
use Rattle.scr_notation.specs.declared.turn.Turn.{Turn}
use Rattle.scr_notation.specs.TurnNumbers.{face_turn_at}
use Rattle.scr_notation.specs.Turning.{opposite}
use Rattle.scr_coord.specs.Projections.{marked_places, stands_in}
use Rattle.scr_cube.specs.Cube333.{CubeState}
use Rattle.scr_stages.specs.Stages.{middle_edges, IsStageScramble, domino_turns}
use Rattle.scr_cube.specs.ListedTurns.{turn_numbers}
use Rattle.scr_combinatorics.specs.Words.{words_within}
use Rattle.scr_search.specs.Orderly.{axis_of, ends_with, is_orderly, leads}

-- ---- what the parts lead to

-- the test of a domino: no flips, no twists, and the edges of the middle layer in it
unfoldable pub is_domino : CubeState → Bool
is_domino c =
    (bytes_eq c.edges.digits (zeros 12) && bytes_eq c.corners.digits (zeros 8))
    && bytes_eq (marked_places (stands_in middle_edges) c.edges.pieces) middle_edges

-- the test of the solved cube
unfoldable pub is_solved : CubeState → Bool
is_solved c =
    (bytes_eq c.corners.pieces (numbers_from 0 8) && bytes_eq c.corners.digits (zeros 8))
    && (bytes_eq c.edges.pieces (numbers_from 0 12) && bytes_eq c.edges.digits (zeros 12))

-- ---- first parts

-- a quarter turn of R, L, F or B
abbrev pub is_side_quarter : ℕ → Bool
is_side_quarter t = not (axis_of t == 0) && not (t % 3 == 1)

-- the word is empty, or its last letter is such a turn
unfoldable pub ends_in_quarter : List ℕ → Bool
ends_in_quarter word = ends_with is_side_quarter word

-- A first part: an orderly word that is empty or ends in a quarter turn of R, L, F or B, and leads to a domino.
unfoldable pub is_first_part : CubeState → List ℕ → Bool
is_first_part c word = (is_orderly word && ends_in_quarter word) && leads is_domino c word

-- those of at most 12 turns, in the order of words
unfoldable pub first_parts : CubeState → List (List ℕ)
first_parts c = filter (is_first_part c) (words_within turn_numbers 12)

-- ---- second parts

-- a solution: an orderly word that leads to solved
unfoldable pub is_solution : CubeState → List ℕ → Bool
is_solution c word = is_orderly word && leads is_solved c word

-- A first part joined with its second part, if it has one: the first solution that goes on from it by at most 10 of the
-- turns that keep a domino.
unfoldable pub joined : CubeState → List ℕ → Option (List ℕ)
joined c first = find (is_solution c) (map (λ word. first ++ word) (words_within domino_turns 10))

-- ---- both

-- The two parts of a cube: the first of its first so many first parts that has a second part, joined with it, or none
-- where none of these has one.
unfoldable pub two_parts : CubeState → ℕ → Option (List ℕ)
two_parts c tries = slice_get (filter_map (joined c) (take tries (first_parts c))) 0

-- ---- the scramble

-- The scramble of a cube, where so many first parts are tried: its two parts taken back; and where there are none, the
-- scramble by stages.
abbrev pub IsScramble333 : ℕ → CubeState → List Turn → Type 0
IsScramble333 tries c turns =
    MatchOption (two_parts c tries) (IsStageScramble c turns) (λ word. turns ≡ back opposite (map face_turn_at word))
