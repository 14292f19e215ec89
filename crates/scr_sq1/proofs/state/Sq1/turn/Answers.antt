use Rattle.std.proofs.Common.{◌≡◌, ℕ, List, Some, slice_index, refl, sym, ap, ◌∙◌, subst, arith}
use Rattle.std.proofs.lemmas.Int.{to_z-of_z}
use Rattle.scr_combinatorics.specs.Lists.{pick}
use Rattle.scr_sq1.specs.Units.{Sq1State, IsSq1, is_open, clockwise, place_before, turn_places, turned, after_layers}
use Rattle.scr_sq1.proofs.Steps.{turned_by_units}
use Rattle.scr_sq1.proofs.Lawful.{units_turned, IsSq1-turned, after_layers-open}
use Rattle.scr_sq1.proofs.state.Sq1.turn.Goals as goal
use Rattle.scr_sq1.proofs.state.Sq1.turn.Goals.{After-loop-unit}

abbrev state : After-loop-unit → Sq1State
state c = record { units = c.self.inside.units; equator = c.self.inside.equator }

-- units that are moved by the amounts as they are read are those of the turned state
moved : (c : After-loop-unit) (units : List ℕ)
    → units ≡ pick (state c).units (turn_places c.clockwise-top_places.result c.clockwise-bottom_places.result)
    → (let r : Sq1State = record { units = units; equator = (state c).equator } in r) ≡ turned (state c) c.args.top c.args.bottom
moved c units are =
    let top = c.ranges.top in
    let bottom = c.ranges.bottom in
    let n : c.clockwise-top_places.result ≡ clockwise c.args.top = simp to_z-of_z at c.clockwise-top_places.ensures.value in
    let m : c.clockwise-bottom_places.result ≡ clockwise c.args.bottom = simp to_z-of_z at c.clockwise-bottom_places.ensures.value in
    units_turned (state c) c.args.top c.args.bottom c.clockwise-top_places.result c.clockwise-bottom_places.result units n m are

made : (c : After-loop-unit)
    → (let r : Sq1State = record { units = c.loop-unit.units; equator = (state c).equator } in r) ≡ turned (state c) c.args.top c.args.bottom
made c =
    let l = c.loop-unit in
    let n = c.clockwise-top_places.result in
    let m = c.clockwise-bottom_places.result in
    moved c l.units (turned_by_units (state c).units l.units n m l.invariant.size
    (λ k lt. l.invariant.filled k (omega (arith, c.loop-unit-test.false)) ∙ ap (λ (s : Sq1State). slice_index s.units (place_before n m k)) (sym c.self.view_is)))

-- and what is tested of them is so of that state
tested : (c : After-loop-unit) → is_open (turned (state c) c.args.top c.args.bottom).units ≡ c.is_open_turned.result
tested c = sym (ap (λ r. is_open r.units) (moved c _ refl)) ∙ sym c.is_open_turned.ensures

pub invariant_of-result : goal.invariant_of-result
invariant_of-result c =
    subst IsSq1 (sym (made c)) (IsSq1-turned (state c) c.args.top c.args.bottom c.self.invariant (tested c ∙ c.if-not-is_open_turned.false))

pub returns-clause-value : goal.returns-clause-value
returns-clause-value c =
    ap Some (made c) ∙ sym (after_layers-open (state c) c.args.top c.args.bottom (tested c ∙ c.if-not-is_open_turned.false))
    ∙ ap (λ s. after_layers s c.args.top c.args.bottom) c.self.view_is
