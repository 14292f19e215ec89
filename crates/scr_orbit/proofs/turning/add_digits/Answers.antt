use Rattle.std.proofs.Common.{arith, get_or-set_other, get_or-set_same, below_more}
use Rattle.scr_orbit.proofs.DigitLaws.{added_digits_by_places}
use Rattle.scr_orbit.proofs.Places.{sum-below, sum-above}
use Rattle.scr_orbit.proofs.turning.add_digits.Goals as goal
use Rattle.scr_orbit.proofs.turning.add_digits.Goals.{then-sum-modulus, else-sum-modulus}

pub overflow_add-sum : goal.overflow_add-sum
overflow_add-sum c = grind arith

pub loop-place-preserved : goal.loop-place-preserved
loop-place-preserved c = grind (arith, below_more, get_or-set_other, get_or-set_same, sum-below, sum-above)

pub returns : goal.returns
returns c = grind (arith, added_digits_by_places)
