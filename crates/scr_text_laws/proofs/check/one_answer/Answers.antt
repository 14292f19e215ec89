use Rattle.scr_text_laws.proofs.CheckLemmas.{one-answer, some-answer}
use Rattle.scr_text_laws.proofs.check.one_answer.Goals as goal

pub returns-clause-one : goal.returns-clause-one
returns-clause-one g c = λ expected lines one other lawful. one-answer (g.X.Expected.lines expected) lawful lines one other

pub returns-clause-some : goal.returns-clause-some
returns-clause-some g c = λ expected lines lawful answers. some-answer (g.X.Expected.lines expected) lawful answers lines
