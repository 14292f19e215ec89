use Rattle.scr_sq1tables.proofs.ShapeStage.{StaysBelow-parts}
use Rattle.scr_sq1tables.proofs.shape_states.ShapeStates.build.Goals as goal

pub invariant_of-result-clause-stays : goal.invariant_of-result-clause-stays
invariant_of-result-clause-stays c = StaysBelow-parts
