use Rattle.scr_tetra.proofs.PyramLaws.{lawful_tetraminx, lawful_pyram}
use Rattle.scr_puzzle_laws.proofs.pyram.turns.Goals as goal

pub returns : goal.returns
returns c = record { pyraminx = lawful_pyram; tetraminx = lawful_tetraminx }
