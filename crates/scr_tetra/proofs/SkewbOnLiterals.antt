-- What to unfold to compute turns, words and numbers of Skewbs.
use Rattle.std.specs.Prelude.{⊤}
use Rattle.scr_combinatorics.specs.Permutations.{permutation_at, half_at}
use Rattle.scr_combinatorics.specs.Play.{play}
use Rattle.scr_orbit.specs.Monoids.{power_of}
use Rattle.scr_orbit.proofs.TablesOnLiterals.{turns_on_literals}
use Rattle.scr_notation.specs.TurnNumbers.{axis_turn_at}
use Rattle.scr_notation.specs.Spelling.{spelling}
use Rattle.scr_tetra.specs.Skewb.{solved_skewb, skewb_of_digits}
use Rattle.scr_tetra.specs.SkewbKnown.{after_b_u, after_b_r}

unfoldable pub skewb_on_literals : ⊤
unfolding turns_on_literals permutation_at half_at play power_of axis_turn_at spelling solved_skewb skewb_of_digits after_b_u after_b_r
skewb_on_literals = tt
