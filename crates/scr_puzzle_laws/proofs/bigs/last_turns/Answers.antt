use Rattle.scr_bigs.proofs.BitLaws.{last-turn}
use Rattle.scr_puzzle_laws.proofs.bigs.last_turns.Goals as goal

pub returns : goal.returns
returns c = last-turn
