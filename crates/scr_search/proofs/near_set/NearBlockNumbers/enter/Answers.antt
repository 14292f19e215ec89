use Rattle.std.proofs.Common.{refl, arith}
use Rattle.scr_search.proofs.NearBits.{HasBits-entered, HasBits-kept}
use Rattle.scr_search.proofs.near_set.NearBlockNumbers.enter.Goals as goal

pub returns-clause-there : goal.returns-clause-there
returns-clause-there c =
    let seat = c.of-seat.result in
    let is = c.of-seat.ensures in
    HasBits-entered c.args.self.now.words c.args.number _ seat.word seat.first seat.second is.word is.first is.second is.below.1 is.below.2
    (omega (arith, is.below.0))

pub returns-clause-kept : goal.returns-clause-kept
returns-clause-kept c = λ other.
    let seat = c.of-seat.result in
    HasBits-kept c.args.self.now.words other _ seat.word seat.first seat.second refl (omega (arith, c.of-seat.ensures.below.0))
