use Rattle.scr_sheet.proofs.SheetLineLaws.{AreCounted}
use Rattle.scr_sheet.proofs.sheet_lines.line_total.Given as goal

abbrev pub invariant-loop-round : goal.invariant-loop-round
invariant-loop-round l = AreCounted l.rounds l.round-index l.total
