use Rattle.scr_sq1solve.proofs.Solutions.{IsReached-iff}
use Rattle.scr_sq1solve.proofs.laws.reached.Goals as goal

pub returns : goal.returns
returns c = IsReached-iff _ c.all-built.ensures.built
