use Rattle.scr_puzzle_laws.proofs.PyramKnown.{word_orders}
use Rattle.scr_puzzle_laws.proofs.pyram.orders.Goals as goal

pub returns : goal.returns
returns c = word_orders
