use Rattle.scr_run_laws.proofs.RunLaws.{IsUnhindered-done, IsUnhindered-limit, all_decided}
use Rattle.scr_run_laws.proofs.completeness.Goals as goal

pub returns-clause-done : goal.returns-clause-done
returns-clause-done c = λ words outcome source out err settings parts run each. IsUnhindered-done c.lists_that_were_read.ensures.whole run each

pub returns-clause-limit : goal.returns-clause-limit
returns-clause-limit c = λ words outcome source out err settings parts run lacks.
    IsUnhindered-limit c.lists_that_were_read.ensures.whole run (all_decided c.one_answer.ensures parts) lacks
