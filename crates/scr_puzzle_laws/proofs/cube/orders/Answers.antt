use Rattle.scr_puzzle_laws.proofs.CubeKnown.{word_orders}
use Rattle.scr_puzzle_laws.proofs.cube.orders.Goals as goal

pub returns : goal.returns
returns c = word_orders
