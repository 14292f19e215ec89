use Rattle.scr_tests.proofs.CheckRowLaws.{rows-lawful}
use Rattle.scr_tests.proofs.check.RowsExpected.count.Goals as goal

pub returns-clause-lawful : goal.returns-clause-lawful
returns-clause-lawful c = rows-lawful c.args.self.now.count c.args.self.now.missing
