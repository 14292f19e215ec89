use Rattle.std.proofs.Common.{get_or, ap, ◌∙◌}
use Rattle.scr_combinatorics.specs.Permutations.{permutation_at}
use Rattle.scr_combinatorics.specs.Twists.{twists_at}
use Rattle.scr_combinatorics.specs.Digits.{mixed_digits}
use Rattle.scr_orbit.proofs.OrbitLaws.{same_orbit}
use Rattle.scr_cube.specs.Cube222.{corners_of_digits, numbered_222}
use Rattle.scr_cube.proofs.numbers.Numbers222Numbering.state_at.Goals as goal

pub returns : goal.returns
unfolding corners_of_digits
returns c =
    let digits = c.unrank.ensures.list ∙ ap (λ bases. mixed_digits bases c.args.number) c.new.ensures in
    c.new-2.ensures
    ∙ same_orbit _ (numbered_222.state_at c.args.number)
    (c.unrank-2.ensures.list ∙ ap (λ ds. permutation_at 7 (get_or ds 1 0)) digits)
    (c.unrank-3.ensures.list ∙ ap (λ ds. twists_at 7 3 (get_or ds 0 0)) digits)
