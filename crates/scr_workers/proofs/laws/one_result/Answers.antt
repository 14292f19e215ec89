use Rattle.scr_workers.proofs.Results.{same-results}
use Rattle.scr_workers.proofs.laws.one_result.Goals as goal

pub returns : goal.returns
returns g c = same-results (g.J.Jobs.slots c.args.jobs.now) (g.J.Jobs.is_answer c.args.jobs.now)
