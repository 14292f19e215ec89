-- What to unfold to compute turns, words and numbers of a Pyraminx.
use Rattle.std.specs.Prelude.{⊤}
use Rattle.scr_combinatorics.specs.Permutations.{permutation_at, half_at}
use Rattle.scr_combinatorics.specs.Twists.{with_sum_fixed, twists_at}
use Rattle.scr_combinatorics.specs.Play.{play}
use Rattle.scr_orbit.specs.Monoids.{power_of}
use Rattle.scr_orbit.proofs.TablesOnLiterals.{turns_on_literals}
use Rattle.scr_notation.specs.TurnNumbers.{axis_turn_at}
use Rattle.scr_notation.specs.Spelling.{spelling}
use Rattle.scr_tetra.specs.Pyraminx.{solved_tetraminx, tetraminx_of_digits, solved_pyram, pyram_of_digits}

unfoldable pub pyram_on_literals : ⊤
unfolding turns_on_literals permutation_at half_at with_sum_fixed twists_at play power_of axis_turn_at spelling solved_tetraminx tetraminx_of_digits solved_pyram pyram_of_digits
pyram_on_literals = tt
