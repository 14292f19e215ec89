use Rattle.scr_combinatorics.proofs.PlaceSets.{place_set_number-order, place_sets_one_to_one}
use Rattle.scr_laws.proofs.combinatorics.place_sets_in_order.Goals as goal

pub returns-clause-numbered : goal.returns-clause-numbered
returns-clause-numbered c = place_sets_one_to_one

pub returns-clause-order : goal.returns-clause-order
returns-clause-order c n k xs ys p q before = place_set_number-order n k xs ys p q before
