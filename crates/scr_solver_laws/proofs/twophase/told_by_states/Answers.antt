use Rattle.scr_twophase.proofs.StateTables.{AreLinesOf-prune}
use Rattle.scr_solver_laws.proofs.twophase.told_by_states.Goals as goal

pub returns : goal.returns
returns c = AreLinesOf-prune
