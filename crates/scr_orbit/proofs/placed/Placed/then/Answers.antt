use Rattle.std.proofs.Common.{arith}
use Rattle.scr_orbit.proofs.placed.Placed.then.Goals as goal

pub returns : goal.returns
returns g c = grind arith
