use Rattle.scr_run_laws.proofs.NetLaws.{nets-shown}
use Rattle.scr_run_laws.proofs.nets.Goals as goal

pub returns : goal.returns
returns c = nets-shown
