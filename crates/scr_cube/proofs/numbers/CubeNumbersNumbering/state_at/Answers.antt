use Rattle.std.proofs.Common.{◌≡◌, get_or, ap, ◌∙◌}
use Rattle.scr_combinatorics.specs.Permutations.{permutation_at, half_at, parity}
use Rattle.scr_combinatorics.specs.Twists.{twists_at}
use Rattle.scr_combinatorics.specs.Digits.{mixed_digits}
use Rattle.scr_orbit.proofs.OrbitLaws.{same_orbit}
use Rattle.scr_cube.specs.Cube333.{cube_of_digits, cube_numbered}
use Rattle.scr_cube.proofs.Laws333.{same_cube}
use Rattle.scr_cube.proofs.Parity.{parity_by}
use Rattle.scr_cube.proofs.numbers.CubeNumbersNumbering.state_at.Goals as goal

pub returns : goal.returns
unfolding cube_of_digits
returns c =
    let cube = cube_numbered.state_at c.args.number in
    let digits = c.unrank.ensures.list ∙ ap (λ bases. mixed_digits bases c.args.number) c.new.ensures in
    let corners = c.unrank-corners.ensures.list ∙ ap (λ ds. permutation_at 8 (get_or ds 2 0)) digits in
    let odd = parity_by c.is_odd.result c.unrank-corners.result c.is_odd.ensures ∙ ap parity corners in
    let edges : c.unrank_with_parity.new.out ≡ cube.edges.pieces =
    c.unrank_with_parity.ensures.list
    ∙ ap (λ k. half_at 12 k (get_or c.unrank.result 3 0)) odd
    ∙ ap (λ ds. half_at 12 (parity (cube_numbered.state_at c.args.number).corners.pieces) (get_or ds 3 0)) digits in
    same_cube _ cube
    (c.new-2.ensures ∙ same_orbit _ cube.corners corners (c.unrank-2.ensures.list ∙ ap (λ ds. twists_at 8 3 (get_or ds 1 0)) digits))
    (c.new-3.ensures ∙ same_orbit _ cube.edges edges
    (c.unrank-3.ensures.list ∙ ap (λ ds. twists_at 12 2 (get_or ds 0 0)) digits))
