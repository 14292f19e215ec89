-- How many turns a 3x3x3 needs, as a test, and which of its pieces are astray.
use Rattle.std.specs.Prelude.{ℕ, ◌==◌, ◌&&◌, not, max, Bool, List, slice_index}
use Rattle.scr_draw.specs.Count.{count_below}
use Rattle.scr_table.specs.TriedWords.{needs_test}
use Rattle.scr_table.specs.Moves.{MoveSet, after_move}
use Rattle.scr_cube.specs.Cube333.{CubeState}
use Rattle.scr_search.specs.Orderly.{after_turn}
use Rattle.scr_twophase.specs.TwoParts.{is_solved}

-- the turns of a cube by their numbers, and which cube is solved
abbrev pub face_moves : MoveSet CubeState
face_moves = record { count = 18; after = after_turn; is_solved = is_solved }

-- None of the words of fewer turns leads to solved.
abbrev pub needs_turns : CubeState → ℕ → Bool
needs_turns = needs_test 18 (after_move face_moves) is_solved

-- Another piece than in a solved orbit stands at a place, or its digit is not 0.
abbrev pub is_astray : List ℕ → List ℕ → ℕ → Bool
is_astray pieces digits place = not ((slice_index pieces place == place) && (slice_index digits place == 0))

-- at how many of the first so many places
unfoldable pub astray : List ℕ → List ℕ → ℕ → ℕ
astray pieces digits places = count_below (is_astray pieces digits) places

-- of the corners or of the edges, whichever are more
unfoldable pub astray_most : CubeState → ℕ
astray_most c = max (astray c.corners.pieces c.corners.digits 8) (astray c.edges.pieces c.edges.digits 12)
