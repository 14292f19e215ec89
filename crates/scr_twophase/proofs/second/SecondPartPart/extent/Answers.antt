use Rattle.scr_twophase.proofs.SecondSteps.{AreViews-second}
use Rattle.scr_twophase.proofs.second.SecondPartPart.extent.Goals as goal

pub returns-clause-views : goal.returns-clause-views
returns-clause-views c = AreViews-second
