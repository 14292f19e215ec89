use Rattle.scr_rank.proofs.PairingSteps.{UnrankedPairs}
use Rattle.scr_rank.proofs.pairings.Pairing8.unrank.Given as goal

abbrev pub invariant-loop-pairs : goal.invariant-loop-pairs
invariant-loop-pairs l = UnrankedPairs l.pairs l.fn.number l.left l.partners
