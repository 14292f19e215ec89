use Rattle.scr_sheet.proofs.LoadRounds.{load_rounds-IsRounds}
use Rattle.scr_run_laws.proofs.load_lists.Goals as goal

pub returns-clause-each : goal.returns-clause-each
returns-clause-each c = load_rounds-IsRounds
