use Rattle.scr_run_laws.proofs.EndLaws.{run-input, run-output}
use Rattle.scr_run_laws.proofs.faults.Goals as goal

pub returns : goal.returns
returns c = record { input = run-input; output = run-output }
