use Rattle.std.proofs.Common.{◌≡◌, not, refl, sym, ap, ◌∙◌, subst, arith}
use Rattle.scr_combinatorics.specs.Lists.{pick}
use Rattle.scr_sq1.specs.Units.{Sq1State, IsSq1, twisted, twist_places}
use Rattle.scr_sq1.proofs.Steps.{picked_by_units}
use Rattle.scr_sq1.proofs.TurnLaws.{IsSq1-twisted}
use Rattle.scr_sq1.proofs.state.Sq1.twist.Goals as goal

made : (c : goal.After-loop-unit)
    → (let r : Sq1State = record { units = c.loop-unit.units; equator = not c.self.inside.equator } in r) ≡ twisted c.args.self.now
unfolding twisted twist_places
made c =
    let l = c.loop-unit in
    let s = c.args.self.now in
    ap (λ us. let r : Sq1State = record { units = us; equator = not c.self.inside.equator } in r)
    (picked_by_units s.units twist_places l.units refl l.invariant.size (λ k lt. l.invariant.filled k (omega (arith, c.loop-unit-test.false))))
    ∙ ap (λ (t : Sq1State). let r : Sq1State = record { units = pick s.units twist_places; equator = not t.equator } in r) c.self.view_is

pub invariant_of-result : goal.invariant_of-result
unfolding twisted
invariant_of-result c =
    subst IsSq1 (sym (made c)) (IsSq1-twisted c.args.self.now (not c.args.self.now.equator) (subst IsSq1 c.self.view_is c.self.invariant))

pub returns-clause-value : goal.returns-clause-value
returns-clause-value c = made c
