use Rattle.std.proofs.Common.{◌≡◌, ℕ, ◌+◌, get_or, IsTrue, sym, ap, ◌∙◌, subst}
use Rattle.std.specs.Prelude.{nat_le, ◌↔◌}
use Rattle.scr_combinatorics.specs.Reach.{Needs}
use Rattle.scr_orbit.specs.PowerPuzzles.{power_puzzle}
use Rattle.scr_tetra.specs.Pyraminx.{numbered_tetraminx, pyram_powers}
use Rattle.scr_tetra.specs.PyramParts.{turned_count}
use Rattle.scr_small.proofs.PyramLaws.{pyram_distance, tested_pyram}
use Rattle.scr_small.proofs.small_pyram.needs_pyram.Goals as goal

pub returns-clause-exact : goal.returns-clause-exact
returns-clause-exact c =
    let s = c.args.state.now in
    let table = c.args.tables.now.distances in
    let m = c.distance_of-large.ensures.measures in
    let large : c.distance_of-large.result ≡ get_or table.distances (numbered_tetraminx.number_of s.body) 0 =
    c.distance_of-large.ensures.entry ∙ ap (λ b. get_or table.distances (numbered_tetraminx.number_of b) 0) c.body.ensures.same in
    let tips : c.count_turned.result ≡ turned_count s.tips = c.count_turned.ensures.count ∙ ap turned_count c.tips.ensures.same in
    let both : c.distance_of-large.result + c.count_turned.result ≡ pyram_distance table m s =
    ap (λ n. n + c.count_turned.result) large ∙ ap (λ n. get_or table.distances (numbered_tetraminx.number_of s.body) 0 + n) tips in
    let P : ℕ → Type 0 = λ d. IsTrue (nat_le c.args.least d) ↔ Needs (power_puzzle pyram_powers) s c.args.least in
    subst P (sym both) (tested_pyram table m s c.args.least c.body.ensures.valid)
