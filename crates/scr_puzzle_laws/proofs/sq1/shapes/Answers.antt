use Rattle.std.proofs.Common.{[], ◌∷◌, refl, sym, ap, ◌∙◌}
use Rattle.scr_sq1.proofs.HalfWords.{half_of_word, IsHalf-word, IsKnownHalf-below}
use Rattle.scr_sq1.proofs.HalfNumbers.{listed-length, ways_of_shapes, shapes_one_to_one, shape_number-order, shape_number-known}
use Rattle.scr_sq1.proofs.StatePieces.{StatePieces-valid}
use Rattle.scr_puzzle_laws.proofs.Sq1OnLiterals.{sq1_on_literals}
use Rattle.scr_puzzle_laws.proofs.sq1.shapes.Goals as goal

pub returns : goal.returns
unfolding sq1_on_literals
returns c = record {
  halves = λ word six. let half = IsHalf-word word six in (half_of_word word, half.below, half.again);
  once = λ h g lh lg same. sym (IsKnownHalf-below h lh).number ∙ ap half_of_word same ∙ (IsKnownHalf-below g lg).number;
  counted = ways_of_shapes;
  listed = listed-length 4 8 ∙ ways_of_shapes;
  one_to_one = shapes_one_to_one;
  in_order = shape_number-order;
  of_states = λ s valid. (StatePieces-valid s valid).shape;
  solved = refl;
  solved_number = shape_number-known (7 ∷ 7 ∷ 10 ∷ 10 ∷ []) 1172 refl refl refl refl;
  first = refl;
  last = refl;
}
