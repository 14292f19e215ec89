use Rattle.scr_sheet.proofs.SheetLineLaws.{IsLeft}
use Rattle.scr_sheet.proofs.sheet_lines.place_of.Given as goal

abbrev pub invariant-loop-index : goal.invariant-loop-index
invariant-loop-index l = IsLeft l.rounds l.line l.index l.left
