use Rattle.scr_text_laws.proofs.AnswerLemmas.{rounds_of-IsAnswer}
use Rattle.scr_text_laws.proofs.OnlyLemmas.{answer-only}
use Rattle.scr_text_laws.proofs.list.answers.Goals as goal

pub returns-clause-answer : goal.returns-clause-answer
returns-clause-answer c = rounds_of-IsAnswer

pub returns-clause-only : goal.returns-clause-only
returns-clause-only c = answer-only
