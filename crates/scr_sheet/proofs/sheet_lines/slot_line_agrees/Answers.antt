use Rattle.std.proofs.Common.{rules}
use Rattle.scr_sheet.proofs.SheetLineLaws.{slot-judged}
use Rattle.scr_sheet.proofs.sheet_lines.slot_line_agrees.Goals as goal

pub returns-in-Some-slot_agrees-2 : goal.returns-in-Some-slot_agrees-2
returns-in-Some-slot_agrees-2 c =
    slot-judged c.args.settings.now c.args.index c.args.round.now c.args.label.now c.args.slot c.args.text.now c.in-Some.behind.now
    c.in-Some-slot_agrees-2.agrees (search rules) (search rules)
