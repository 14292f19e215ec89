use Rattle.std.proofs.Common.{◌<◌, get_or, sym, ap, ◌∙◌, subst, arith}
use Rattle.std.specs.Prelude.{Contains}
use Rattle.scr_combinatorics.specs.Digits.{mixed_digits}
use Rattle.scr_cube.specs.Cube333.{cube_numbered}
use Rattle.scr_cube.specs.Held.{hold_centres, holds, held_of_digits, held_numbered}
use Rattle.scr_cube.proofs.Holds.{Contains-hold, hold_centres-are}
use Rattle.scr_cube.proofs.HeldLaws.{same_held}
use Rattle.scr_cube.proofs.numbers.HeldNumbersNumbering.state_at.Goals as goal

pub returns : goal.returns
unfolding held_of_digits
returns c =
    let digits = c.unrank.ensures.list ∙ ap (λ bases. mixed_digits bases c.args.number) c.new.ensures in
    same_held _ (held_numbered.state_at c.args.number) (c.state_at.ensures ∙ ap (λ ds. cube_numbered.state_at (get_or ds 1 0)) digits)
    (sym (hold_centres-are (get_or c.unrank.result 0 0) (omega (arith, ap (λ ds. get_or ds 0 0) digits))) ∙ ap (λ ds. hold_centres (get_or ds 0 0)) digits)

pub invariant_of-result : goal.invariant_of-result
invariant_of-result c =
    let digits = c.unrank.ensures.list ∙ ap (λ bases. mixed_digits bases c.args.number) c.new.ensures in
    let hold = get_or c.unrank.result 0 0 in
    let below : hold < 24 = omega (arith, ap (λ ds. get_or ds 0 0) digits) in
    subst (Contains holds) (hold_centres-are hold below) (Contains-hold hold below)
