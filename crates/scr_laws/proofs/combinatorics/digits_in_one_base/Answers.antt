use Rattle.scr_combinatorics.proofs.Digits.{AreDigits-replicate, product-replicate}
use Rattle.scr_laws.proofs.combinatorics.digits_in_one_base.Goals as goal

pub returns-clause-each_below : goal.returns-clause-each_below
returns-clause-each_below c = AreDigits-replicate

pub returns-clause-count : goal.returns-clause-count
returns-clause-count c = product-replicate
