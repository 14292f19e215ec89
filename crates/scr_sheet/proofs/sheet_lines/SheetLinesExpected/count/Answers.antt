use Rattle.std.proofs.Common.{subst}
use Rattle.scr_check.specs.Agreement.{AreLawful}
use Rattle.scr_sheet.specs.Check.{SheetRounds, expected_lines}
use Rattle.scr_sheet.proofs.SheetLineLaws.{lines-lawful}
use Rattle.scr_sheet.proofs.sheet_lines.SheetLinesExpected.count.Goals as goal

pub returns-clause-lawful : goal.returns-clause-lawful
returns-clause-lawful c =
    subst (λ (lines : SheetRounds). AreLawful (expected_lines lines.settings lines.rounds)) c.self.view_is
    (lines-lawful c.self.inside.settings.now c.self.inside.rounds.now c.self.invariant.0)
