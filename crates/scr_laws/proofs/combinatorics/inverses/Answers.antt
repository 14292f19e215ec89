use Rattle.scr_combinatorics.proofs.PermutationLaws.{IsPermutation-inverse, pick-inverse, inverse-pick}
use Rattle.scr_combinatorics.proofs.Parities.{parity-inverse}
use Rattle.scr_laws.proofs.combinatorics.inverses.Goals as goal

pub returns-clause-permutation : goal.returns-clause-permutation
returns-clause-permutation c n xs p = IsPermutation-inverse n xs p

pub returns-clause-after : goal.returns-clause-after
returns-clause-after c n xs p = pick-inverse n xs p

pub returns-clause-before : goal.returns-clause-before
returns-clause-before c n xs p = inverse-pick n xs p

pub returns-clause-parity : goal.returns-clause-parity
returns-clause-parity c n xs p = parity-inverse n xs p
