use Rattle.std.proofs.Common.{arith}
use Rattle.scr_tests.proofs.table.CircleCoord.count.Goals as goal

pub returns-clause-stays_below : goal.returns-clause-stays_below
returns-clause-stays_below c = λ p t q position turn leads. Prim.grind arith
