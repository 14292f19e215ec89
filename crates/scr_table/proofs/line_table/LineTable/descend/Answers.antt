use Rattle.scr_table.proofs.SameTables.{StaysBelow-shown, Measures-shown, IsFirstWord-same}
use Rattle.scr_table.proofs.line_table.LineTable.descend.Goals as goal

pub descend-requires-clause-measures : goal.descend-requires-clause-measures
descend-requires-clause-measures g c =
    let line = g.L.Line.line.coordinate in
    let moves = g.L.Moves.Coord.coordinate c.self.inside.moves in
    let h = c.self.invariant in
    Measures-shown line moves (StaysBelow-shown line moves h.shown h.is.measures.stays_below) h.shown c.self.inside.distances h.is.measures

pub returns-clause-first : goal.returns-clause-first
returns-clause-first g c =
    let line = g.L.Line.line.coordinate in
    let moves = g.L.Moves.Coord.coordinate c.self.inside.moves in
    let h = c.self.invariant in
    IsFirstWord-same line moves (StaysBelow-shown line moves h.shown h.is.measures.stays_below) h.shown
    c.args.position c.descend.result.items c.requires c.descend.ensures
