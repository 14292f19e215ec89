use Rattle.std.proofs.Common.{◌≡◌, ◌+◌, ◌<◌, ◌%◌, take, arith, below_more, add-one, ap, sym, ◌∙◌}
use Rattle.std.proofs.lemmas.Bool.{false≢true, eq-eqb, eqb-true}
use Rattle.std.proofs.lemmas.List.{take_all}
use Rattle.scr_combinatorics.specs.Lists.{total}
use Rattle.std.proofs.lemmas.List.Elements.{All-from_get_or}
use Rattle.scr_orbit.proofs.Places.{total-take_suc}
use Rattle.scr_orbit.proofs.validity.are_completed.Goals as goal

pub returns-then-digit-base : goal.returns-then-digit-base
returns-then-digit-base c = grind (arith, false≢true)

pub loop-digit-preserved : goal.loop-digit-preserved
loop-digit-preserved c = grind (arith, total-take_suc, below_more, add-one)

pub returns : goal.returns
returns c =
    let digits = c.args.digits.now in
    let i = c.loop-digit.digit-index in
    let all : take i digits ≡ digits = take_all i digits (omega arith) in
    let sum : c.loop-digit.sum % c.from.result ≡ (total digits + c.args.more) % c.args.base =
    ap (λ b. c.loop-digit.sum % b) c.from.ensures ∙ ap (λ s. s % c.args.base) (c.loop-digit.invariant.summed ∙ ap (λ ds. total ds + c.args.more) all) in (
      λ h. (
        All-from_get_or (λ d. d < c.args.base) digits 0 (λ k lt. c.loop-digit.invariant.below k (omega arith)),
        sym sum ∙ eqb-true (c.loop-digit.sum % c.from.result) 0 h,
      ),
      λ h. eq-eqb (c.loop-digit.sum % c.from.result) 0 (sum ∙ h.1),
    )
