use Rattle.scr_run_laws.proofs.CauseLaws.{input-cause, output-cause, usage-cause, list-cause}
use Rattle.scr_run_laws.proofs.causes.Goals as goal

pub returns : goal.returns
returns c = record { input = input-cause; output = output-cause; words = usage-cause; list = list-cause }
