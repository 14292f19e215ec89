-- The scramble of a 3x3x3 for fewest moves. It begins and ends with R' U' F, as at competitions; what stands
-- between is our own choice: the scramble of the cube that the two frames leave. Where turns of one face meet at a
-- joint, both stand.
use Rattle.std.specs.Prelude.{◌≡◌, ◌==◌, ◌+◌, ◌-◌, ◌&&◌, ℕ, Bool, false, nat_le, List, [], ◌∷◌, ◌++◌, length, slice_index_or, unwrap_or}
use Rattle.scr_combinatorics.specs.Back.{back}
use Rattle.scr_combinatorics.specs.Play.{play}
use Rattle.scr_orbit.specs.PowerPuzzles.{after_letter}
use Rattle.scr_notation.specs.declared.turn.Turn.{Turn}
use Rattle.scr_notation.specs.declared.turn.Turn.TheVariants.{Face, Over}
use Rattle.scr_notation.specs.Turning.{opposite}
use Rattle.scr_cube.specs.Cube333.{CubeState, cube_monoid, cube_powers, solved_cube}
use Rattle.scr_twophase.specs.TwoParts.{IsScramble333}

-- R' U' F
unfoldable pub frame : List Turn
frame = Face 1 1 3 ∷ Face 0 1 3 ∷ Face 2 1 1 ∷ []

-- They begin with one frame and end with another.
pub record IsFramed (turns : List Turn) : Type 0 where
  pub middle : List Turn
  pub whole : turns ≡ frame ++ middle ++ frame

-- a test of it: at least six turns, of which the first three and the last three are a frame
abbrev pub is_turn : ℕ → ℕ → Turn → Bool
is_turn face amount (Face own depth times) = own == face && (depth == 1 && times == amount)
is_turn face amount _ = false

unfoldable pub is_frame_at : List Turn → ℕ → Bool
is_frame_at turns place =
    is_turn 1 3 (slice_index_or turns place Over)
    && (is_turn 0 3 (slice_index_or turns (place + 1) Over) && is_turn 2 1 (slice_index_or turns (place + 2) Over))

unfoldable pub is_framed : List Turn → Bool
is_framed turns = nat_le 6 (length turns) && (is_frame_at turns 0 && is_frame_at turns (length turns - 3))

-- The cube to which the frame taken back, F' U R, leads from solved.
unfoldable pub frame_back : CubeState
frame_back = unwrap_or (play (after_letter cube_powers) solved_cube (back opposite frame)) solved_cube

-- The cube that the frames of a state's scramble leave between them: the frame taken back, the state, and the frame
-- taken back.
unfoldable pub between : CubeState → CubeState
between s = cube_monoid.turned frame_back (cube_monoid.turned s frame_back)

-- The turns are two frames and between them the scramble of that cube, where so many first parts are tried.
pub record IsScrambleFewest (tries : ℕ) (s : CubeState) (turns : List Turn) : Type 0 where
  pub middle : List Turn
  pub scramble : IsScramble333 tries (between s) middle
  pub whole : turns ≡ frame ++ middle ++ frame
