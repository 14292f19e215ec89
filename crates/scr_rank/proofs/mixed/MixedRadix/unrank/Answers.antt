use Rattle.std.proofs.Common.{◌<◌, ◌/◌, ◌%◌, length, take, slice_index, ap, sym, ◌∙◌, subst, arith}
use Rattle.std.proofs.lemmas.Grind.{common_steps}
use Rattle.scr_combinatorics.specs.Digits.{AreDigits, mixed_number, product}
use Rattle.scr_combinatorics.proofs.Digits.{AreDigits-mixed_digits, digits_one_to_one, mixed_number-at, mixed_number-mixed_digits}
use Rattle.scr_combinatorics.proofs.Numberings.{only_one}
use Rattle.scr_rank.proofs.mixed.MixedRadix.unrank.Given.{Over}
use Rattle.scr_rank.proofs.mixed.MixedRadix.unrank.Goals as goal

some : {g : Over} (c : goal.After-loop-place g) → 0 < product c.args.self.now
some c = subst (λ bases. 0 < product bases) c.self.view_is c.self.invariant.0

pub returns-clause-list : goal.returns-clause-list
returns-clause-list g c = grind (arith, common_steps)

pub returns-clause-valid : goal.returns-clause-valid
returns-clause-valid g c =
    subst (AreDigits c.args.self.now) (sym (returns-clause-list g c)) (AreDigits-mixed_digits c.args.self.now c.args.number (some c))

pub returns-clause-number : goal.returns-clause-number
returns-clause-number g c =
    ap (mixed_number c.args.self.now) (returns-clause-list g c)
    ∙ mixed_number-mixed_digits c.args.self.now c.args.number (some c) c.requires.below

pub returns-clause-place_has_digit : goal.returns-clause-place_has_digit
returns-clause-place_has_digit g c k lt =
    let bases = c.args.self.now in
    mixed_number-at bases c.loop-place.out (returns-clause-valid g c) k (omega (arith, lt, c.self.told, ap length c.self.view_is))
    ∙ ap (λ n. n / product (take k bases) % slice_index bases k) (returns-clause-number g c)

pub returns-clause-inverse : goal.returns-clause-inverse
returns-clause-inverse g c value valid number =
    only_one (digits_one_to_one c.args.self.now (some c)) c.args.number c.loop-place.out value (returns-clause-list g c) valid number
