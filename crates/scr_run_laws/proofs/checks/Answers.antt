use Rattle.scr_run_laws.proofs.CheckRuns.{check-ends}
use Rattle.scr_run_laws.proofs.checks.Goals as goal

pub returns : goal.returns
returns c = λ words outcome source out err settings input answer run comes. check-ends run answer comes
