use Rattle.scr_small.proofs.PuzzleLaws.{tested-iff}
use Rattle.scr_small.proofs.BuiltTables.{IsTableOf-built}
use Rattle.scr_small.proofs.small_puzzle.SmallPuzzle.new.Goals as goal

pub invariant_of-result-clause-exact : goal.invariant_of-result-clause-exact
invariant_of-result-clause-exact g c =
    let p = g.P.OneTable in
    let l = c.numbers.ensures.solved in
    let tables = c.args.tables.now in
    let table = IsTableOf-built p.shown p.TABLE l tables c.requires c.only-table.ensures.built in
    λ s least valid. tested-iff p.shown l.lawful tables.distances table.measures s least ((c.numbers.ensures.valid s).0 valid)
