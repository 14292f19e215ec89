use Rattle.scr_tetra.proofs.NumberedPyram.{tetraminx_numbering, pyram_numbering}
use Rattle.scr_puzzle_laws.proofs.pyram.numberings.Goals as goal

pub returns-clause-pyraminx : goal.returns-clause-pyraminx
returns-clause-pyraminx c = pyram_numbering

pub returns-clause-tetraminx : goal.returns-clause-tetraminx
returns-clause-tetraminx c = tetraminx_numbering
