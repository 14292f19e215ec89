use Rattle.scr_orbit.proofs.Minima.{count_once}
use Rattle.scr_puzzle_laws.proofs.CubeMinima.{one_needed, one_enough, twenty_enough}
use Rattle.scr_puzzle_laws.proofs.cube.minima.Goals as goal

pub returns : goal.returns
returns c = record {
  counts = λ w. (count_once w, count_once w);
  one_turn = λ s e. (one_needed s e, one_enough s e);
  twenty_enough = twenty_enough;
}
