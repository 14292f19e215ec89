use Rattle.scr_small.specs.Puzzles.{numbered_puzzle_tetraminx}
use Rattle.scr_small.specs.Tables.{state_table_tetraminx}
use Rattle.scr_small.proofs.PyramLaws.{tested_pyram}
use Rattle.scr_small.proofs.LawfulTetraminx.{solved_by_table_tetraminx}
use Rattle.scr_small.proofs.BuiltTables.{IsTableOf-built}
use Rattle.scr_small.proofs.small_pyram.SmallPyram.new.Goals as goal

pub invariant_of-result-clause-exact : goal.invariant_of-result-clause-exact
invariant_of-result-clause-exact c =
    let tables = c.args.tables.now in
    let table = IsTableOf-built numbered_puzzle_tetraminx state_table_tetraminx solved_by_table_tetraminx tables c.requires
    c.only-table.ensures.built in
    tested_pyram tables.distances table.measures
