use Rattle.std.proofs.Common.{sym, subst, arith}
use Rattle.scr_combinatorics.specs.Digits.{AreDigits}
use Rattle.scr_rank.proofs.MixedSteps.{ranked_by}
use Rattle.scr_rank.proofs.mixed.MixedRadix.rank.Goals as goal

pub overflow_mul-number : goal.overflow_mul-number
overflow_mul-number g c =
    let valid = subst (λ bases. AreDigits bases c.args.value.now) (sym c.self.view_is) c.requires.valid in
    omega (arith, c.self.invariant.1, (ranked_by _ _ _ _ c.self.invariant.0 valid c.loop-place-test.true (omega arith) c.loop-place.invariant).low)
