use Rattle.std.proofs.Common.{arith}
use Rattle.std.proofs.lemmas.Bool.{eqb-false}
use Rattle.scr_check.proofs.AheadLemmas.{held-none}
use Rattle.scr_check.proofs.ahead.Ahead.wants_more.Goals as goal

pub returns-else-self-clause-has : goal.returns-else-self-clause-has
returns-else-self-clause-has c = grind (arith, eqb-false, held-none)
