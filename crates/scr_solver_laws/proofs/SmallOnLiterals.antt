-- What to unfold to compute where turns lead from a position.
use Rattle.std.specs.Prelude.{⊤}
use Rattle.scr_combinatorics.specs.Permutations.{permutation_at, half_at}
use Rattle.scr_combinatorics.specs.Twists.{with_sum_fixed, twists_at}
use Rattle.scr_orbit.specs.Monoids.{power_of}
use Rattle.scr_orbit.proofs.TablesOnLiterals.{turns_on_literals}
use Rattle.scr_notation.specs.TurnNumbers.{face_turn_at, axis_turn_at}
use Rattle.scr_cube.specs.Cube222.{corners_of_digits, digits_222}
use Rattle.scr_tetra.specs.Pyraminx.{solved_tetraminx, tetraminx_of_digits, tetraminx_digits}
use Rattle.scr_tetra.specs.Skewb.{solved_skewb, skewb_of_digits, skewb_digits}

unfoldable pub positions_on_literals : ⊤
unfolding turns_on_literals permutation_at half_at with_sum_fixed twists_at power_of face_turn_at axis_turn_at corners_of_digits digits_222 solved_tetraminx tetraminx_of_digits tetraminx_digits solved_skewb skewb_of_digits skewb_digits
positions_on_literals = tt
