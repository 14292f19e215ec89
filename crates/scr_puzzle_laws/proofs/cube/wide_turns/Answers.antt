use Rattle.scr_puzzle_laws.proofs.WideTurns.{held_as_two}
use Rattle.scr_puzzle_laws.proofs.cube.wide_turns.Goals as goal

pub returns : goal.returns
returns c = held_as_two
