use Rattle.scr_run_laws.proofs.EndLaws.{run-done, run-memory, run-tables}
use Rattle.scr_run_laws.proofs.ends.Goals as goal

pub returns : goal.returns
returns c = record { well = run-done; memory = run-memory; tables = run-tables }
