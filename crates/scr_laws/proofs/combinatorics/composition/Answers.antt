use Rattle.scr_combinatorics.proofs.PermutationLaws.{IsPermutation-pick}
use Rattle.scr_combinatorics.proofs.Parities.{parity-pick}
use Rattle.scr_laws.proofs.combinatorics.composition.Goals as goal

pub returns-clause-permutation : goal.returns-clause-permutation
returns-clause-permutation c n xs ks p q = IsPermutation-pick n xs ks p q

pub returns-clause-parity : goal.returns-clause-parity
returns-clause-parity c n xs ks p q = parity-pick n xs ks p q
