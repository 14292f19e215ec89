use Rattle.std.proofs.Common.{sym, ap, ◌∙◌, subst, arith, rules}
use Rattle.scr_combinatorics.specs.Pairings.{IsPairing, pairing_number}
use Rattle.scr_combinatorics.proofs.Numberings.{only_one}
use Rattle.scr_combinatorics.proofs.Pairings.{pairings_one_to_one, IsPairing-at, pairing_number-at}
use Rattle.scr_rank.proofs.PairingSteps.{IsPairing-unranked, unranked_more, unranked_end}
use Rattle.scr_rank.proofs.pairings.Pairing8.unrank.Goals as goal

pub with_first_pair-partners-requires-clause-valid : goal.with_first_pair-partners-requires-clause-valid
with_first_pair-partners-requires-clause-valid c = search (arith, rules, IsPairing-unranked)

pub loop-pairs-preserved : goal.loop-pairs-preserved
loop-pairs-preserved c = search (arith, rules, unranked_more)

pub returns-clause-list : goal.returns-clause-list
returns-clause-list c = grind (arith, unranked_end)

pub returns-clause-valid : goal.returns-clause-valid
returns-clause-valid c = subst (IsPairing 8) (sym (returns-clause-list c)) (IsPairing-at 4 c.args.number c.requires.below)

pub returns-clause-number : goal.returns-clause-number
returns-clause-number c = ap (pairing_number 4) (returns-clause-list c) ∙ pairing_number-at 4 c.args.number c.requires.below

pub returns-clause-inverse : goal.returns-clause-inverse
returns-clause-inverse c value valid number =
    only_one (pairings_one_to_one 4) c.args.number c.loop-pairs.partners value (returns-clause-list c) valid number
