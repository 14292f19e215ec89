-- The scramble of a 3x3x3 as it is held: a cube's scramble, and then the word of the hold (our own choice, which is why
-- the cube's scramble is one for the faces that the word has not turned yet).
use Rattle.std.specs.Prelude.{◌≡◌, ℕ, ◌≤◌, IsTrue, List, ◌++◌, length, Some, is_some}
use Rattle.scr_combinatorics.specs.Back.{back}
use Rattle.scr_combinatorics.specs.Play.{play}
use Rattle.scr_orbit.specs.PowerPuzzles.{after_letter}
use Rattle.scr_notation.specs.declared.turn.Turn.{Turn}
use Rattle.scr_notation.specs.Turning.{opposite}
use Rattle.scr_cube.specs.Cube333.{CubeState, cube_powers}
use Rattle.scr_cube.specs.Held.{HeldState, solved_held, faces_turned, hold_word, hold_of}
use Rattle.scr_twophase.specs.TwoParts.{two_parts, IsScramble333}

-- The word of a state's hold.
abbrev pub own_word : HeldState → List Turn
own_word s = hold_word (hold_of s.centres)

-- The turns are the scramble of the cube from which the faces that the hold's word turns from solved lead to the
-- state's, where so many first parts are tried, and then that word. Where the search finds two parts, the cube's
-- scramble has at most 22 turns.
pub record IsScramble333bf (tries : ℕ) (s : HeldState) (turns : List Turn) : Type 0 where
  pub before : CubeState
  pub turned_back :
      play (after_letter cube_powers) s.cube (back opposite (faces_turned solved_held.centres (own_word s)))
      ≡ Some before
  pub first : List Turn
  pub scramble : IsScramble333 tries before first
  pub few : IsTrue (is_some (two_parts before tries)) → length first ≤ 22
  pub joined : turns ≡ first ++ own_word s
