use Rattle.scr_twophase.proofs.FirstSteps.{AreViews-first}
use Rattle.scr_twophase.proofs.first.FirstPartPart.extent.Goals as goal

pub returns-clause-views : goal.returns-clause-views
returns-clause-views c = AreViews-first
