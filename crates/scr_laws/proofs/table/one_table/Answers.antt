use Rattle.scr_table.proofs.DescentLaws.{Measures-unique}
use Rattle.scr_laws.proofs.table.one_table.Goals as goal

pub returns : goal.returns
returns _ = Measures-unique
