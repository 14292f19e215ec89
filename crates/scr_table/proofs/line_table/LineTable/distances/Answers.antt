use Rattle.scr_table.proofs.LineLaws.{no_gap}
use Rattle.scr_table.proofs.line_table.LineTable.distances.Goals as goal

pub returns-clause-no_gap : goal.returns-clause-no_gap
returns-clause-no_gap g c = no_gap g.L.Line.line c.self.inside.distances c.self.invariant.is
