use Rattle.scr_puzzle_laws.proofs.FollowingLaws.{moves-turns}
use Rattle.scr_bigs.proofs.BitLaws.{megaminx-count}
use Rattle.scr_puzzle_laws.proofs.bigs.turn_counts.Goals as goal

pub returns-clause-of_555 : goal.returns-clause-of_555
returns-clause-of_555 c = λ attempts place word turns made. (moves-turns 5 attempts place word turns made).count

pub returns-clause-of_666 : goal.returns-clause-of_666
returns-clause-of_666 c = λ attempts place word turns made. (moves-turns 6 attempts place word turns made).count

pub returns-clause-of_777 : goal.returns-clause-of_777
returns-clause-of_777 c = λ attempts place word turns made. (moves-turns 7 attempts place word turns made).count

pub returns-clause-of_megaminx : goal.returns-clause-of_megaminx
returns-clause-of_megaminx c = λ place word turns made. megaminx-count word place turns made
