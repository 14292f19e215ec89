use Rattle.scr_small.specs.Puzzles.{numbered_puzzle_tetraminx}
use Rattle.scr_small.specs.Tables.{state_table_tetraminx}
use Rattle.scr_small.proofs.PyramLaws.{IsReached-pyram}
use Rattle.scr_small.proofs.LawfulTetraminx.{solved_by_table_tetraminx}
use Rattle.scr_small.proofs.BuiltTables.{IsTableOf-built}
use Rattle.scr_small.proofs.laws.pyram_reached_by_table.Goals as goal

pub returns : goal.returns
returns c =
    let tables = c.args.tables.now in
    let table = IsTableOf-built numbered_puzzle_tetraminx state_table_tetraminx solved_by_table_tetraminx tables c.requires
    c.only-table.ensures.built in
    IsReached-pyram tables.distances table.measures
