-- Words of turns of a cube that are joined, one and then another.
use Rattle.std.specs.Prelude.{◌≡◌, List, ◌++◌, Some}
use Rattle.scr_combinatorics.specs.Play.{play}
use Rattle.scr_orbit.specs.PowerPuzzles.{after_letter}
use Rattle.scr_notation.specs.declared.turn.Turn.{Turn}
use Rattle.scr_cube.specs.Cube333.{CubeState, cube_monoid, cube_powers, solved_cube}

-- Both words lead from the solved cube somewhere, and the one word and then the other to the one cube turned by the
-- other.
pub record IsJoined (v w : List Turn) : Type 0 where
  pub first : CubeState
  pub second : CubeState
  pub first_played : play (after_letter cube_powers) solved_cube v ≡ Some first
  pub second_played : play (after_letter cube_powers) solved_cube w ≡ Some second
  pub both_played : play (after_letter cube_powers) solved_cube (v ++ w) ≡ Some (cube_monoid.turned first second)
