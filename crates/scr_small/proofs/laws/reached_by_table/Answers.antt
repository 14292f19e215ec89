use Rattle.scr_small.proofs.PuzzleLaws.{IsReached-iff}
use Rattle.scr_small.proofs.BuiltTables.{IsTableOf-built}
use Rattle.scr_small.proofs.laws.reached_by_table.Goals as goal

pub returns : goal.returns
returns g c =
    let p = g.P.OneTable in
    let l = c.numbers-numbers.ensures.solved in
    let tables = c.args.tables.now in
    let table = IsTableOf-built p.shown p.TABLE l tables c.requires c.only-table.ensures.built in
    IsReached-iff p.shown l.lawful tables.distances table.measures
