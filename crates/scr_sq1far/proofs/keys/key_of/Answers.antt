use Rattle.std.proofs.Common.{sym, ap, ◌+◌, ◌*◌, ◌-◌, ◌∙◌, arith, true, false, ◌≡◌, ◌<◌, ◌^◌, drop}
use Rattle.scr_sq1far.specs.Levels.{units_key}
use Rattle.scr_sq1far.proofs.KeyLaws.{key-start, key-low, unit-low, key-step, key-made}
use Rattle.scr_sq1far.proofs.keys.key_of.Goals as goal
use Rattle.scr_sq1far.proofs.keys.key_of.Goals.{then-equator, else-equator}

pub loop-place-init : goal.loop-place-init
loop-place-init c = key-start c.args.state.now c.units-units.ensures.valid c.units-units.result c.units-units.ensures.same

pub overflow_mul-key : goal.overflow_mul-key
overflow_mul-key c =
    let p = c.loop-place.place in
    let low : c.loop-place.key < 16 ^ 23 = key-low c.args.state.now c.units-units.ensures.valid c.units-units.result c.units-units.ensures.same p 23 c.loop-place.key c.loop-place.invariant (omega arith) in
    omega arith

pub overflow_add-key : goal.overflow_add-key
overflow_add-key c =
    let p = c.loop-place.place in
    let low : c.loop-place.key < 16 ^ 23 = key-low c.args.state.now c.units-units.ensures.valid c.units-units.result c.units-units.ensures.same p 23 c.loop-place.key c.loop-place.invariant (omega arith) in
    let unit = unit-low c.args.state.now c.units-units.ensures.valid c.units-units.result c.units-units.ensures.same (p - 1) (omega arith) in
    omega (arith, low, unit, c.from.ensures)

pub loop-place-preserved : goal.loop-place-preserved
loop-place-preserved c =
    let p = c.loop-place.place in
    ap (λ u. 16 * c.loop-place.key + u) c.from.ensures
    ∙ key-step c.args.state.now c.units-units.ensures.valid c.units-units.result c.units-units.ensures.same p c.loop-place.key c.loop-place.invariant (omega arith) (omega arith)

pub overflow_mul-result : goal.overflow_mul-result
overflow_mul-result c =
    let p = c.loop-place.place in
    let low : c.loop-place.key < 16 ^ 24 = key-low c.args.state.now c.units-units.ensures.valid c.units-units.result c.units-units.ensures.same p 24 c.loop-place.key c.loop-place.invariant (omega arith) in
    omega arith

pub overflow_add-result : goal.overflow_add-result
overflow_add-result c =
    let p = c.loop-place.place in
    let low : c.loop-place.key < 16 ^ 24 = key-low c.args.state.now c.units-units.ensures.valid c.units-units.result c.units-units.ensures.same p 24 c.loop-place.key c.loop-place.invariant (omega arith) in
    elim c.if-equator.branch [
      | then-equator w ↦ omega (arith, low, w.bit-is)
      | else-equator w ↦ omega (arith, low, w.bit-is)
    ]

pub returns-clause-key : goal.returns-clause-key
returns-clause-key c =
    let p = c.loop-place.place in
    let made : c.loop-place.key ≡ units_key (drop 0 c.units-units.result) =
    c.loop-place.invariant ∙ ap (λ k. units_key (drop k c.units-units.result)) {x = p} {y = 0} (omega arith) in
    elim c.if-equator.branch [
      | then-equator w ↦
          key-made c.args.state.now c.units-units.ensures.valid c.units-units.result c.units-units.ensures.same c.loop-place.key c.if-equator.bit true made
          (sym c.equator.ensures.same ∙ w.if-equator.true) w.bit-is
      | else-equator w ↦
          key-made c.args.state.now c.units-units.ensures.valid c.units-units.result c.units-units.ensures.same c.loop-place.key c.if-equator.bit false made
          (sym c.equator.ensures.same ∙ w.if-equator.false) w.bit-is
    ]
