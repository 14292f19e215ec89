use Rattle.std.proofs.Common.{[], ◌∷◌}
use Rattle.scr_table.proofs.LineLaws.{no_gaps}
use Rattle.scr_sq1tables.specs.Tables.{sq1_lines}
use Rattle.scr_sq1tables.proofs.tables.Sq1Tables.all.Goals as goal

pub returns-clause-whole : goal.returns-clause-whole
returns-clause-whole c =
    let t = c.args.self.now in
    no_gaps sq1_lines (t.shapes ∷ t.pairings ∷ t.square ∷ []) c.args.self.now.built
