use Rattle.scr_orbit.proofs.Minima.{count_once}
use Rattle.scr_puzzle_laws.proofs.SkewbKnown.{b_u_needs_one, two_enough}
use Rattle.scr_puzzle_laws.proofs.skewb.minima.Goals as goal

pub returns : goal.returns
returns c = record { counts = count_once; one_needed = b_u_needs_one; two_enough = two_enough }
