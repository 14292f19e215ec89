use Rattle.scr_rank.proofs.PairingSteps.{RankedPairs}
use Rattle.scr_rank.proofs.pairings.Pairing8.rank.Given as goal

abbrev pub invariant-loop-pairs : goal.invariant-loop-pairs
invariant-loop-pairs l = RankedPairs l.pairs l.number l.rest l.value
