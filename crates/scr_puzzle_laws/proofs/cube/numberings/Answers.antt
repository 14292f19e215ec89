use Rattle.scr_cube.proofs.Numbered333.{cube_numbering}
use Rattle.scr_cube.proofs.Numbered222.{numbering_222}
use Rattle.scr_cube.proofs.NumberedHeld.{held_numbering}
use Rattle.scr_puzzle_laws.proofs.cube.numberings.Goals as goal

pub returns-clause-cube : goal.returns-clause-cube
returns-clause-cube c = cube_numbering

pub returns-clause-corners : goal.returns-clause-corners
returns-clause-corners c = numbering_222

pub returns-clause-held : goal.returns-clause-held
returns-clause-held c = held_numbering
