-- What a search by a pruning table works on.
use Rattle.std.specs.Prelude.{◌≡◌}
use Rattle.scr_combinatorics.specs.Lists.{numbers_from}
use Rattle.scr_positions.specs.SearchSpaces.{SearchSpace}
use Rattle.scr_cube.specs.Cube333.{CubeState, IsCube}
use Rattle.scr_stages.specs.Stages.{middle_edges, domino_turns}
use Rattle.scr_stages.specs.Numbers.{IsDominoCube}
use Rattle.scr_cube.specs.ListedTurns.{cube_space, turn_numbers}
use Rattle.scr_stages.specs.Tetrads.{in_block}

-- the first part: all cubes, by all turns, to a goal
abbrev pub cubes_to : (CubeState → Type 0) → SearchSpace CubeState
cubes_to IsGoal = cube_space IsCube turn_numbers IsGoal

-- the second part: dominoes, by the turns that keep them
abbrev pub dominoes_to : (CubeState → Type 0) → SearchSpace CubeState
dominoes_to IsGoal = cube_space IsDominoCube domino_turns IsGoal

-- the edges of the middle layer stand in order
abbrev pub AreMiddleHome : CubeState → Type 0
AreMiddleHome c = in_block middle_edges c.edges.pieces ≡ numbers_from 0 4
