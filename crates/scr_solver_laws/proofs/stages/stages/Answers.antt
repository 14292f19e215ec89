use Rattle.scr_stages.proofs.SolutionLaws.{stage_scramble, IsReached-iff, IsStageScramble-unique, scramble-at_most, scramble-played}
use Rattle.scr_solver_laws.proofs.stages.stages.Goals as goal

pub returns : goal.returns
returns c = record {
  some = stage_scramble;
  reached = IsReached-iff;
  one = IsStageScramble-unique;
  at_most = scramble-at_most;
  leads = scramble-played;
}
