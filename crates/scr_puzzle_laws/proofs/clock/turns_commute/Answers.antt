use Rattle.scr_clock.proofs.DialTurns.{turned_swap}
use Rattle.scr_puzzle_laws.proofs.clock.turns_commute.Goals as goal

pub returns : goal.returns
returns c = turned_swap
