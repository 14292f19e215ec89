use Rattle.scr_bigs.proofs.TurnOrder.{fair-turns}
use Rattle.scr_bigs.proofs.BitLaws.{fair-bits}
use Rattle.scr_puzzle_laws.proofs.bigs.fair_steps.Goals as goal

pub returns-clause-cubes : goal.returns-clause-cubes
returns-clause-cubes c = fair-turns

pub returns-clause-bits : goal.returns-clause-bits
returns-clause-bits c = fair-bits
