use Rattle.scr_list.specs.Printed.{with_minima, without_minima}
use Rattle.scr_text_laws.proofs.PrintedLemmas.{first-read, second-read}
use Rattle.scr_text_laws.proofs.list.reads_back.Goals as goal

pub returns-clause-second : goal.returns-clause-second
returns-clause-second c = second-read with_minima c.args.rounds.now c.requires (λ k d h. tt)

pub returns-clause-second_usual : goal.returns-clause-second_usual
returns-clause-second_usual c usual = second-read without_minima c.args.rounds.now c.requires usual

pub returns-clause-first : goal.returns-clause-first
returns-clause-first c few bare = first-read with_minima c.args.rounds.now c.requires few bare (λ k d h. tt)

pub returns-clause-first_usual : goal.returns-clause-first_usual
returns-clause-first_usual c few bare usual = first-read without_minima c.args.rounds.now c.requires few bare usual
