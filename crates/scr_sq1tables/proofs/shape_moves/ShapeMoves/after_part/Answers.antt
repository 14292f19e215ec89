use Rattle.std.proofs.Common.{◌∙◌}
use Rattle.scr_sq1tables.proofs.ShapeStage.{part-seen}
use Rattle.scr_sq1tables.proofs.shape_moves.ShapeMoves.after_part.Goals as goal

pub returns-clause-value : goal.returns-clause-value
returns-clause-value c = c.after.ensures.leads ∙ part-seen c.args.self.now.shows c.args.index c.args.part c.requires.index c.requires.part
