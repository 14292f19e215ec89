use Rattle.scr_combinatorics.proofs.Pairings.{pairing_number-order, pairings_one_to_one}
use Rattle.scr_laws.proofs.combinatorics.pairings_in_order.Goals as goal

pub returns-clause-numbered : goal.returns-clause-numbered
returns-clause-numbered c = pairings_one_to_one

pub returns-clause-order : goal.returns-clause-order
returns-clause-order c = pairing_number-order
