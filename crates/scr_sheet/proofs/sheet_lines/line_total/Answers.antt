use Rattle.scr_sheet.proofs.SheetLineLaws.{counted-more}
use Rattle.scr_sheet.proofs.sheet_lines.line_total.Goals as goal

pub loop-round-preserved : goal.loop-round-preserved
loop-round-preserved c =
    counted-more c.args.rounds.now c.loop-round.round-index c.loop-round.total c.line_count-total.result c.round-item.result c.round-item.is
    c.loop-round-test.true (c.line_count-total.ensures.count c.loop-round.round-index) c.line_count-total.ensures.few c.loop-round.invariant
