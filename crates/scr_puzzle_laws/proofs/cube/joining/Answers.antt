use Rattle.scr_cube.proofs.Laws333.{cube_laws}
use Rattle.scr_puzzle_laws.proofs.cube.joining.Goals as goal

pub returns : goal.returns
returns c = cube_laws
