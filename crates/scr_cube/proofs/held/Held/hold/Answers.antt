use Rattle.std.proofs.Common.{◌≡◌, sym, ap, ◌∙◌, subst, arith, below_more}
use Rattle.std.specs.Prelude.{Contains}
use Rattle.std.proofs.lemmas.Bool.{false≢true}
use Rattle.std.proofs.lemmas.Bool.Decides.{Decides-eqb}
use Rattle.std.proofs.lemmas.Slice.Eq.{slice_eq-Decides}
use Rattle.scr_cube.specs.Held.{hold_centres, hold_of, holds}
use Rattle.scr_cube.proofs.Holds.{HasNumber-hold, hold_centres-are, hold_of-hold}
use Rattle.scr_cube.proofs.held.Held.hold.Goals.{Then-eq}
use Rattle.scr_cube.proofs.held.Held.hold.Goals as goal

found : (c : Then-eq) → hold_centres c.loop-hold.hold ≡ c.centres-centres.result
found c =
    let same = slice_eq-Decides Decides-eqb _ _ _ c.eq.ensures in
    hold_centres-are c.loop-hold.hold c.loop-hold-test.true ∙ same.0 c.if-eq.true

pub returns-then-eq-clause-number : goal.returns-then-eq-clause-number
returns-then-eq-clause-number c =
    let is = found (goal.at.returns-then-eq-clause-number c).Then-eq in
    sym (hold_of-hold c.loop-hold.hold c.loop-hold-test.true) ∙ ap hold_of (is ∙ c.centres-centres.ensures.same)

pub returns-then-eq-clause-centres : goal.returns-then-eq-clause-centres
returns-then-eq-clause-centres c = found (goal.at.returns-then-eq-clause-centres c).Then-eq ∙ c.centres-centres.ensures.same

pub loop-hold-preserved : goal.loop-hold-preserved
loop-hold-preserved c =
    let same = slice_eq-Decides Decides-eqb _ _ _ c.eq.ensures in
    below_more _ _ c.loop-hold.invariant
    (λ e. false≢true (sym c.if-eq.false ∙ same.1 (sym (hold_centres-are c.loop-hold.hold c.loop-hold-test.true) ∙ e)))

pub unreachable-requires : goal.unreachable-requires
unreachable-requires c =
    let n = HasNumber-hold c.centres-centres.result (subst (Contains holds) (sym c.centres-centres.ensures.same) c.centres-centres.ensures.valid.centres) in
    c.loop-hold.invariant n.number (omega (arith, n.below, c.loop-hold-test.false)) n.is
