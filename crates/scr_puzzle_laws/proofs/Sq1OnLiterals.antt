-- What to unfold to compute turns, words, shapes and numbers of a Square-1.
use Rattle.std.specs.Prelude.{⊤}
use Rattle.scr_combinatorics.specs.Permutations.{permutation_at}
use Rattle.scr_combinatorics.specs.Play.{play}
use Rattle.scr_notation.specs.Spelling.{spelling}
use Rattle.scr_sq1.specs.Units.{turn_places, twist_places, turned, after_layers, twisted, sq1_after}
use Rattle.scr_sq1.specs.Shapes.{half_words, half_word, corner_counts, half_of, shape_of, ways_after, halves_at, shape_at}
use Rattle.scr_sq1.proofs.HalfNumbers.{halves_number}
use Rattle.scr_sq1.specs.Numbers.{corners_of, edges_of, shape_word, sq1_digits, sq1_of_digits}

unfoldable pub sq1_on_literals : ⊤
unfolding permutation_at play spelling turn_places twist_places turned after_layers twisted sq1_after half_words half_word corner_counts half_of shape_of ways_after halves_number halves_at shape_at corners_of edges_of shape_word sq1_digits sq1_of_digits
sq1_on_literals = tt
