use Rattle.scr_puzzle_laws.proofs.FollowingLaws.{moves-turns}
use Rattle.scr_bigs.proofs.BitLaws.{megaminx-turns}
use Rattle.scr_puzzle_laws.proofs.bigs.random_turns.Goals as goal

pub returns-clause-cubes : goal.returns-clause-cubes
returns-clause-cubes c = moves-turns

pub returns-clause-megaminx : goal.returns-clause-megaminx
returns-clause-megaminx c = megaminx-turns
