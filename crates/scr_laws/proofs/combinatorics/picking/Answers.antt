use Rattle.scr_combinatorics.proofs.Picks.{pick-in_order, pick-pick}
use Rattle.scr_combinatorics.proofs.PermutationLaws.{IsRearranged-pick, total-pick}
use Rattle.scr_laws.proofs.combinatorics.picking.Goals as goal

pub returns-clause-same_elements : goal.returns-clause-same_elements
returns-clause-same_elements c xs ks p = IsRearranged-pick xs ks p

pub returns-clause-same_sum : goal.returns-clause-same_sum
returns-clause-same_sum c xs ks p = total-pick xs ks p

pub returns-clause-composed : goal.returns-clause-composed
returns-clause-composed c xs ks ls below = pick-pick xs ks ls below

pub returns-clause-in_order : goal.returns-clause-in_order
returns-clause-in_order c xs = pick-in_order xs
