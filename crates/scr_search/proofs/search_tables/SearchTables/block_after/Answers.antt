use Rattle.std.proofs.Common.{sym, ◌∙◌}
use Rattle.scr_positions.specs.Moves.{moves_coordinate}
use Rattle.scr_search.proofs.ViewLaws.{number-block, seen-turned, shown-turned}
use Rattle.scr_search.proofs.search_tables.SearchTables.block_after.Goals as goal

pub returns : goal.returns
returns g c = λ cube turned seen at by.
    let v = g.P.Part.views in
    let e = g.P.Part.extent in
    let are = c.requires.views in
    let self = c.args.self.now in
    let place = c.args.place in
    c.target.ensures (v.middle.number turned)
    (shown-turned v v.middle are.middle (moves_coordinate self.middle) self.middle_shown cube turned c.args.block place seen (at ∙ number-block v e are cube seen) c.requires.place by)
    ∙ sym (number-block v e are turned (seen-turned v v.middle are.middle cube turned place seen c.requires.place by))
