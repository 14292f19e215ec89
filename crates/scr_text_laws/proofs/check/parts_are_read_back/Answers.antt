use Rattle.scr_check.specs.Parts.{separator}
use Rattle.scr_text_laws.proofs.CheckLemmas.{separator-plain, separator-same}
use Rattle.scr_check.proofs.PartLemmas.{split-separated, split-separated_last, split-alone}
use Rattle.scr_text_laws.proofs.check.parts_are_read_back.Goals as goal

pub returns-clause-list : goal.returns-clause-list
returns-clause-list c = λ list sheet lines. (split-separated list separator sheet lines separator-plain separator-same).0

pub returns-clause-sheet : goal.returns-clause-sheet
returns-clause-sheet c = λ list sheet lines. (split-separated list separator sheet lines separator-plain separator-same).1

pub returns-clause-list_at_end : goal.returns-clause-list_at_end
returns-clause-list_at_end c = λ list lines. (split-separated_last list separator lines separator-plain separator-same).0

pub returns-clause-no_sheet : goal.returns-clause-no_sheet
returns-clause-no_sheet c = λ list lines. (split-separated_last list separator lines separator-plain separator-same).1

pub returns-clause-alone : goal.returns-clause-alone
returns-clause-alone c = λ input none. (split-alone input none).0

pub returns-clause-none_behind : goal.returns-clause-none_behind
returns-clause-none_behind c = λ input none. (split-alone input none).1
