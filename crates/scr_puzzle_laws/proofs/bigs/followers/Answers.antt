use Rattle.scr_bigs.proofs.TurnOrder.{follow-tells}
use Rattle.scr_puzzle_laws.proofs.bigs.followers.Goals as goal

pub returns : goal.returns
returns c = follow-tells
