use Rattle.scr_rank.proofs.PairingSteps.{WrittenPairs}
use Rattle.scr_rank.proofs.pairings.with_first_pair.Given as goal

abbrev pub invariant-loop-index : goal.invariant-loop-index
invariant-loop-index l = WrittenPairs l.places l.partner l.rest l.partners l.index
