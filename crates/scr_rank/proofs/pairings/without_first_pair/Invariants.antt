use Rattle.scr_rank.proofs.PairingSteps.{WrittenRest}
use Rattle.scr_rank.proofs.pairings.without_first_pair.Given as goal

abbrev pub invariant-loop-index : goal.invariant-loop-index
invariant-loop-index l = WrittenRest l.partner l.partners l.rest l.index
