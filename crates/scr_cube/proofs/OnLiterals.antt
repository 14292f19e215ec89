-- What to unfold to compute turns, words and numbers of cubes.
use Rattle.std.specs.Prelude.{⊤}
use Rattle.scr_combinatorics.specs.Permutations.{permutation_at, half_at}
use Rattle.scr_combinatorics.specs.Twists.{with_sum_fixed, twists_at}
use Rattle.scr_combinatorics.specs.Play.{play}
use Rattle.scr_orbit.specs.Monoids.{power, power_of}
use Rattle.scr_orbit.specs.Orbits.{turned_orbit, solved_orbit, added_digits}
use Rattle.scr_notation.specs.TurnNumbers.{face_turn_at}
use Rattle.scr_notation.specs.Spelling.{spelling}
use Rattle.scr_cube.specs.Cube333.{solved_cube, cube_of_digits}
use Rattle.scr_cube.specs.Cube222.{corners_of_digits}
use Rattle.scr_cube.specs.Held.{solved_held, whole_turned, held_cube_after, faces_turned, hold_word, hold_centres, held_of_digits}
use Rattle.scr_cube.specs.Known.{superflip}

unfoldable pub cubes_on_literals : ⊤
unfolding permutation_at half_at with_sum_fixed twists_at play power power_of turned_orbit solved_orbit added_digits face_turn_at spelling solved_cube cube_of_digits corners_of_digits superflip
cubes_on_literals = tt

-- And those of held cubes.
unfoldable pub held_on_literals : ⊤
unfolding cubes_on_literals solved_held whole_turned held_cube_after faces_turned hold_word hold_centres held_of_digits
held_on_literals = tt
