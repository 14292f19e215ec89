use Rattle.std.proofs.Common.{[], ◌∷◌}
use Rattle.scr_table.proofs.LineLaws.{no_gaps}
use Rattle.scr_stages.specs.Tables.{stage_lines}
use Rattle.scr_stages.proofs.tables.StageTables.all.Goals as goal

pub returns-clause-whole : goal.returns-clause-whole
returns-clause-whole c =
    let t = c.args.self.now in no_gaps stage_lines (t.flips ∷ t.slice ∷ t.tetrads ∷ t.halves ∷ []) t.built
