use Rattle.std.proofs.Common.{arith}
use Rattle.scr_orbit.proofs.validity.are_twists.Goals as goal

pub returns : goal.returns
returns c = grind arith
