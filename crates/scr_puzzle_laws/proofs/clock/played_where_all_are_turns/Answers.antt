use Rattle.scr_clock.proofs.ScrambleLaws.{defined-iff}
use Rattle.scr_puzzle_laws.proofs.clock.played_where_all_are_turns.Goals as goal

pub returns : goal.returns
returns c = defined-iff
