use Rattle.scr_sheet.proofs.SheetLineLaws.{left-found, left-more}
use Rattle.scr_sheet.proofs.sheet_lines.place_of.Goals as goal

pub returns-then-left-count : goal.returns-then-left-count
returns-then-left-count c =
    left-found c.args.rounds.now c.args.line c.loop-index.index c.loop-index.left c.line_count-count.result c.index-rounds-index.result
    c.index-rounds-index.is c.loop-index-test.true (c.line_count-count.ensures.count c.loop-index.index) c.if-left-count.true c.loop-index.invariant

pub loop-index-preserved : goal.loop-index-preserved
loop-index-preserved c =
    left-more c.args.rounds.now c.args.line c.loop-index.index c.loop-index.left c.line_count-count.result c.index-rounds-index.result
    c.index-rounds-index.is c.loop-index-test.true (c.line_count-count.ensures.count c.loop-index.index) c.if-left-count.false c.loop-index.invariant
