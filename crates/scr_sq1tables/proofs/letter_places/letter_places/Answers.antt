use Rattle.std.proofs.Common.{[], arith}
use Rattle.scr_sq1tables.specs.Letters.{letter_of}
use Rattle.scr_sq1tables.specs.Placed.{pieces}
use Rattle.scr_sq1tables.specs.Tables.{units_after}
use Rattle.scr_sq1tables.proofs.Numbers.{numbers_all}
use Rattle.scr_sq1tables.proofs.letter_places.letter_places.Goals as goal

pub returns : goal.returns
returns c =
    numbers_all (λ k. pieces c.args.part (units_after (letter_of c.args.letters) k)) 32 c.loop-number.places [] c.loop-number.invariant.size
    (λ k lt. c.loop-number.invariant.filled k (omega (arith, lt, c.loop-number-test.false)))
