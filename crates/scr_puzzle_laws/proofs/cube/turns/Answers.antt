use Rattle.scr_cube.proofs.Laws333.{lawful_cube}
use Rattle.scr_cube.proofs.Laws222.{lawful_222}
use Rattle.scr_puzzle_laws.proofs.cube.turns.Goals as goal

pub returns : goal.returns
returns c = record { cube = lawful_cube; corners = lawful_222 }
