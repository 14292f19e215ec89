use Rattle.scr_combinatorics.proofs.StageLaws.{IsSolution-unique}
use Rattle.scr_sq1.specs.Units.{sq1_after}
use Rattle.scr_sq1tables.specs.Stages.{sq1_stages}
use Rattle.scr_sq1solve.proofs.Solutions.{solution, play-solution, IsReached-sq1, play-scramble}
use Rattle.scr_solver_laws.proofs.sq1solve.solutions.Goals as goal

pub returns : goal.returns
returns c = record {
  some = solution;
  reached = IsReached-sq1;
  one = IsSolution-unique sq1_after sq1_stages;
  solved = play-solution;
  scramble = play-scramble;
}
