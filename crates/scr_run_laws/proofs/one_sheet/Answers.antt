use Rattle.std.proofs.Common.{[], ◌∷◌}
use Rattle.scr_sheet.specs.Sheet.{round_parts, single_part}
use Rattle.scr_run_laws.proofs.RunLaws.{IsText-one_text, all_decided}
use Rattle.scr_run_laws.proofs.one_sheet.Goals as goal

pub returns-clause-sheet : goal.returns-clause-sheet
returns-clause-sheet c = λ settings rounds text other.
    let parts = round_parts 0 rounds in IsText-one_text settings parts text other (all_decided c.one_answer.ensures parts)

pub returns-clause-line : goal.returns-clause-line
returns-clause-line c = λ settings event side text other.
    let parts = single_part event side ∷ [] in IsText-one_text settings parts text other (all_decided c.one_answer.ensures parts)
