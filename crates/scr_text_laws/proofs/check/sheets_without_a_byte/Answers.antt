use Rattle.scr_text_laws.proofs.CheckLemmas.{nothing-agrees, nothing-differs}
use Rattle.scr_text_laws.proofs.check.sheets_without_a_byte.Goals as goal

pub returns-clause-agrees : goal.returns-clause-agrees
returns-clause-agrees g c = λ expected. nothing-agrees (g.X.Expected.lines expected)

pub returns-clause-differs : goal.returns-clause-differs
returns-clause-differs g c = λ expected. nothing-differs (g.X.Expected.lines expected)
