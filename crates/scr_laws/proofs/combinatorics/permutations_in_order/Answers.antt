use Rattle.scr_combinatorics.proofs.PermutationLaws.{IsRearranged-permutations}
use Rattle.scr_combinatorics.proofs.PermutationNumbers.{permutation_number-order, permutations_one_to_one}
use Rattle.scr_laws.proofs.combinatorics.permutations_in_order.Goals as goal

pub returns-clause-numbered : goal.returns-clause-numbered
returns-clause-numbered c = permutations_one_to_one

pub returns-clause-order : goal.returns-clause-order
returns-clause-order c n xs ys p q before = permutation_number-order xs ys (IsRearranged-permutations n xs ys p q) before
