use Rattle.scr_combinatorics.proofs.PermutationLaws.{IsPermutation-from_test, is_permutation-true}
use Rattle.scr_laws.proofs.combinatorics.permutation_test.Goals as goal

pub returns : goal.returns
returns c n xs = (IsPermutation-from_test n xs, is_permutation-true n xs)
