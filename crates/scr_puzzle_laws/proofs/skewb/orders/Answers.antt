use Rattle.scr_puzzle_laws.proofs.SkewbKnown.{word_orders}
use Rattle.scr_puzzle_laws.proofs.skewb.orders.Goals as goal

pub returns : goal.returns
returns c = word_orders
