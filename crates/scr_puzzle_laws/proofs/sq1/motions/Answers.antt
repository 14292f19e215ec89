use Rattle.scr_puzzle_laws.proofs.Motions.{left_kept}
use Rattle.scr_puzzle_laws.proofs.sq1.motions.Goals as goal

pub returns-clause-left : goal.returns-clause-left
returns-clause-left c = left_kept
