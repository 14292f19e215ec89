use Rattle.std.proofs.Common.{◌≡◌, [], ◌∷◌, ap, ◌∙◌}
use Rattle.scr_combinatorics.specs.Permutations.{permutation_number}
use Rattle.scr_combinatorics.specs.Twists.{twists_number}
use Rattle.scr_combinatorics.specs.Digits.{mixed_number}
use Rattle.scr_cube.specs.Cube222.{digits_222}
use Rattle.scr_cube.proofs.Numbered222.{bases_222}
use Rattle.scr_cube.proofs.numbers.Numbers222Numbering.number_of.Goals as goal

pub returns : goal.returns
unfolding digits_222
returns c =
    let twists = c.rank.ensures.number ∙ ap (twists_number 3) c.twists.ensures.same in
    let corners = c.rank-2.ensures.number ∙ ap permutation_number c.corners.ensures.same in
    let digits : c.rank.result ∷ c.rank-2.result ∷ [] ≡ digits_222 c.args.state.now = cc in
    c.rank-3.ensures.number
    ∙ ap (λ bases. mixed_number bases (c.rank.result ∷ c.rank-2.result ∷ [])) c.new.ensures
    ∙ ap (mixed_number bases_222) digits
