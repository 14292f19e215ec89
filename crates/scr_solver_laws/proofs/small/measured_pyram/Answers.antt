use Rattle.std.proofs.Common.{arith}
use Rattle.scr_small.proofs.PyramLaws.{position_of, IsReached-pyram, Needs-pyram, scrambled_pyram, length-scramble_pyram, large-le, turned_tips-le, play-scrambled_pyram, IsScramblePyram-unique}
use Rattle.scr_solver_laws.proofs.small.measured_pyram.Goals as goal

pub returns : goal.returns
returns c = record {
  position = position_of;
  reached = IsReached-pyram;
  needs = λ table m s least valid. Needs-pyram table m s least valid;
  scrambled = scrambled_pyram;
  as_long = length-scramble_pyram;
  large = large-le;
  tips = turned_tips-le;
  at_most = λ table m bound s turns valid scramble.
      omega (arith, length-scramble_pyram table m s turns valid scramble, large-le table m bound s valid, turned_tips-le s valid);
  played = play-scrambled_pyram;
  one_scramble = IsScramblePyram-unique;
}
