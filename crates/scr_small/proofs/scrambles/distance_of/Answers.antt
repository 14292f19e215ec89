use Rattle.std.proofs.Common.{ℕ, ◌≤◌, sym, subst}
use Rattle.std.specs.Prelude.{◌↔◌}
use Rattle.scr_combinatorics.specs.Reach.{Needs}
use Rattle.scr_small.specs.NumberedPuzzles.{numbered_as_puzzle}
use Rattle.scr_small.proofs.PuzzleLaws.{Needs-iff}
use Rattle.scr_small.proofs.BuiltTables.{IsTableOf-built, same_entry}
use Rattle.scr_small.proofs.scrambles.distance_of.Goals as goal

pub returns-clause-measures : goal.returns-clause-measures
returns-clause-measures g c =
    let p = g.P.OneTable in
    (IsTableOf-built p.shown p.TABLE c.number.ensures.solved c.args.tables.now c.requires c.only.ensures.built).measures

pub returns-clause-exact : goal.returns-clause-exact
returns-clause-exact g c =
    let p = g.P.OneTable in
    let l = c.number.ensures.solved in
    let tables = c.args.tables.now in
    let s = c.args.state.now in
    let entry = same_entry c.only.result.now tables.distances c.number.result (p.shown.numbered.number_of s) c.distance.result
    c.distance.ensures.value c.only.ensures.same c.number.ensures.number in
    λ least.
    let P : ℕ → Type 0 = λ d. (least ≤ d) ↔ Needs (numbered_as_puzzle p.shown) s least in
    subst P (sym entry) (Needs-iff p.shown l.lawful tables.distances (returns-clause-measures g c) s least c.number.ensures.valid)
