use Rattle.scr_table.proofs.LineLaws.{no_gaps}
use Rattle.scr_twophase.specs.Built.{distances_of}
use Rattle.scr_twophase.specs.Tables.{prune_lines}
use Rattle.scr_twophase.proofs.tables.PruneTables.all.Goals as goal

pub returns-clause-whole : goal.returns-clause-whole
returns-clause-whole c =
    let inside = c.self.inside in
    no_gaps prune_lines (distances_of inside.first.one_slice inside.first.other_slice inside.second.one_slice inside.second.other_slice) c.self.invariant
