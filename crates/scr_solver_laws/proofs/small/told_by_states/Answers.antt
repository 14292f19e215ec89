use Rattle.scr_small.proofs.StateTables.{IsLineOf-corners, IsLineOf-pyramid, IsLineOf-skewb}
use Rattle.scr_solver_laws.proofs.small.told_by_states.Goals as goal

pub returns : goal.returns
returns c = record { corners = IsLineOf-corners; pyramid = IsLineOf-pyramid; skewb = IsLineOf-skewb }
