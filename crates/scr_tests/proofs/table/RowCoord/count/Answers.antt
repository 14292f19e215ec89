use Rattle.scr_table.proofs.RowLaws.{row_stays}
use Rattle.scr_tests.proofs.table.RowCoord.count.Goals as goal

pub returns-clause-stays_below : goal.returns-clause-stays_below
returns-clause-stays_below c = row_stays c.args.self.now.0
