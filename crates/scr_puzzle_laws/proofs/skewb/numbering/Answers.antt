use Rattle.scr_tetra.proofs.NumberedSkewb.{skewb_numbering}
use Rattle.scr_puzzle_laws.proofs.skewb.numbering.Goals as goal

pub returns-clause-one_to_one : goal.returns-clause-one_to_one
returns-clause-one_to_one c = skewb_numbering
