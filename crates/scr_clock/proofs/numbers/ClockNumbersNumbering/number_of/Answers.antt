use Rattle.std.proofs.Common.{lit<}
use Rattle.scr_combinatorics.proofs.Digits.{AreDigits-replicate}
use Rattle.scr_clock.proofs.numbers.ClockNumbersNumbering.number_of.Goals as goal

pub rank-requires : goal.rank-requires
rank-requires c =
    let are = (AreDigits-replicate 14 12 c.args.state.now).1 (c.requires.fourteen, c.requires.below) in
    (lit< tt, (lit< tt, rw (c.dial_radix.ensures, c.digits.ensures, c.dials.ensures.same) are))
