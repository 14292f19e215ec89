use Rattle.scr_text_laws.proofs.CheckLemmas.{agreed-feed, agreed-left-out, agreed-more}
use Rattle.scr_text_laws.proofs.check.sheets_with_one_end.Goals as goal

pub returns-clause-feed : goal.returns-clause-feed
returns-clause-feed g c = λ expected. agreed-feed (g.X.Expected.lines expected)

pub returns-clause-left_out : goal.returns-clause-left_out
returns-clause-left_out g c = λ expected. agreed-left-out (g.X.Expected.lines expected)

pub returns-clause-more : goal.returns-clause-more
returns-clause-more g c = λ expected. agreed-more (g.X.Expected.lines expected)
