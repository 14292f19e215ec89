use Rattle.std.proofs.Common.{◌∷◌, ◌++◌}
use Rattle.scr_check.specs.Parts.{separator}
use Rattle.scr_run_laws.proofs.OwnSheet.{own-agrees, own-agrees-in}
use Rattle.scr_run_laws.proofs.own_sheet_agrees.Goals as goal

pub returns-clause-parts : goal.returns-clause-parts
returns-clause-parts c = own-agrees c.one_answer.ensures

pub returns-clause-behind : goal.returns-clause-behind
returns-clause-behind c = λ seed options rounds list text whole.
    own-agrees-in c.one_answer.ensures seed options rounds list text (list ++ (separator ++ 10 ∷ text))
    (c.parts_are_read_back.ensures.list list text whole) (c.parts_are_read_back.ensures.sheet list text whole)
