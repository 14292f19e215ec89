use Rattle.scr_stages.proofs.StateTables.{AreLinesOf-stages}
use Rattle.scr_solver_laws.proofs.stages.told_by_states.Goals as goal

pub returns : goal.returns
returns c = AreLinesOf-stages
