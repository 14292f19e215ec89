use Rattle.std.proofs.Common.{Err, ap}
use Rattle.scr_options.specs.Split.{found_values}
use Rattle.scr_options.specs.Words.{texts}
use Rattle.scr_pages.proofs.AskedLemmas.{not_split, split_asks}
use Rattle.scr_pages.proofs.asked.asked_for.Goals as goal

pub returns-in-Err-clause-refused : goal.returns-in-Err-clause-refused
returns-in-Err-clause-refused c =
    not_split (texts c.args.words.now) c.in-Err.why c.fault_of_options.result c.fault_of_options.ensures
    (λ e. c.in-Err.ensures.usage (ap Err e)) (λ e. c.in-Err.ensures.memory (ap Err e))

pub returns-clause-asked : goal.returns-clause-asked
returns-clause-asked c =
    (split_asks (texts c.args.words.now) (found_values c.in-Ok.split) c.asked_in.result c.ok_or.result c.in-Ok.ensures.ok
    c.asked_in.ensures c.ok_or.ensures.value).0

pub returns-clause-refused : goal.returns-clause-refused
returns-clause-refused c =
    (split_asks (texts c.args.words.now) (found_values c.in-Ok.split) c.asked_in.result c.ok_or.result c.in-Ok.ensures.ok
    c.asked_in.ensures c.ok_or.ensures.value).1
