use Rattle.scr_sq1tables.proofs.ShapeWordLaws.{IsEarlier-shape_words, Contains-shape_words, IsStageWord-listed, IsSquared-iff, IsShapeWord-iff}
use Rattle.scr_solver_laws.proofs.sq1solve.shape_words.Goals as goal

pub returns : goal.returns
returns c = record {
  squared = IsSquared-iff;
  led = IsShapeWord-iff;
  all = Contains-shape_words;
  in_order = IsEarlier-shape_words;
  first = IsStageWord-listed;
}
