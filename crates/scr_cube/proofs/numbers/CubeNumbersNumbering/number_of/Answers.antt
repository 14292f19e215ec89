use Rattle.std.proofs.Common.{◌≡◌, [], ◌∷◌, ◌/◌, ap, ◌∙◌, subst, sym, lit<}
use Rattle.scr_combinatorics.specs.Digits.{AreDigits, mixed_number}
use Rattle.scr_combinatorics.specs.Permutations.{permutation_number}
use Rattle.scr_combinatorics.specs.Twists.{twists_number}
use Rattle.scr_cube.specs.Cube333.{cube_digits}
use Rattle.scr_cube.proofs.Numbered333.{cube_bases, AreDigits-cube}
use Rattle.scr_cube.proofs.numbers.CubeNumbersNumbering.number_of.Goals as goal
use Rattle.scr_cube.proofs.numbers.CubeNumbersNumbering.number_of.Goals.{After-from}

digits : (c : After-from) → c.rank.result ∷ c.rank-2.result ∷ c.rank-3.result ∷ c.from.result ∷ [] ≡ cube_digits c.args.state.now
unfolding cube_digits
digits c =
    let flips = c.rank.ensures.number ∙ ap (twists_number 2) c.flips.ensures.same in
    let twists = c.rank-2.ensures.number ∙ ap (twists_number 3) c.twists.ensures.same in
    let corners = c.rank-3.ensures.number ∙ ap permutation_number c.corners.ensures.same in
    let half = c.from.ensures ∙ ap (λ n. n / 2) (c.rank_permutation.ensures ∙ ap permutation_number c.edges.ensures.same) in
    cc

pub rank-requires-4 : goal.rank-requires-4
rank-requires-4 c =
    let a = (goal.at.rank-requires-4 c).After-from in
    let are = subst (AreDigits cube_bases) (sym (digits a)) (AreDigits-cube c.args.state.now c.requires) in
    let numbers = c.rank.result ∷ c.rank-2.result ∷ c.rank-3.result ∷ c.from.result ∷ [] in
    (lit< tt, (lit< tt, subst (λ bases. AreDigits bases numbers) (sym c.new.ensures) are))

pub returns : goal.returns
returns c =
    let numbers = c.rank.result ∷ c.rank-2.result ∷ c.rank-3.result ∷ c.from.result ∷ [] in
    c.rank-4.ensures.number ∙ ap (λ bases. mixed_number bases numbers) c.new.ensures
    ∙ ap (mixed_number cube_bases) (digits (goal.at.returns c).After-from)
