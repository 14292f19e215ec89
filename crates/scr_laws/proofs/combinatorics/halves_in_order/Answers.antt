use Rattle.std.proofs.Common.{sym, ◌∙◌}
use Rattle.scr_combinatorics.proofs.Halves.{parity-next, half_order, halves_one_to_one}
use Rattle.scr_laws.proofs.combinatorics.halves_in_order.Goals as goal

pub returns-clause-exactly_one : goal.returns-clause-exactly_one
returns-clause-exactly_one c n r xs ys p q ex ey = parity-next xs ys (p.size ∙ sym q.size) r ex ey

pub returns-clause-numbered : goal.returns-clause-numbered
returns-clause-numbered c = halves_one_to_one

pub returns-clause-order : goal.returns-clause-order
returns-clause-order c n xs ys p q same before = half_order n xs ys p q same before
