use Rattle.scr_orbit.proofs.Minima.{count_once}
use Rattle.scr_puzzle_laws.proofs.PyramKnown.{two_needed, two_enough}
use Rattle.scr_puzzle_laws.proofs.pyram.minima.Goals as goal

pub returns : goal.returns
returns c = record { counts = count_once; two_needed = two_needed; two_enough = two_enough }
