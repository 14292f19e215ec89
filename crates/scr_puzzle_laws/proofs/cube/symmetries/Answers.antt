use Rattle.scr_puzzle_laws.proofs.CubeKnown.{opposite_faces}
use Rattle.scr_puzzle_laws.proofs.cube.symmetries.Goals as goal

pub returns-clause-opposite_faces : goal.returns-clause-opposite_faces
returns-clause-opposite_faces c = opposite_faces
