use Rattle.scr_small.proofs.PuzzleLaws.{tested_by}
use Rattle.scr_small.proofs.scrambles.needs_of.Goals as goal

pub returns-clause-exact : goal.returns-clause-exact
returns-clause-exact g c = tested_by c.args.least c.distance_of.result (c.distance_of.ensures.exact c.args.least)
