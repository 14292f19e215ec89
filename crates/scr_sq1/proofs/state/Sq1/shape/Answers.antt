use Rattle.std.proofs.Common.{◌+◌, ◌-◌, ◌*◌, length, drop, take, sym, ap, ◌∙◌, subst, arith}
use Rattle.scr_sq1.specs.Shapes.{IsShape}
use Rattle.scr_sq1.proofs.HalfWords.{corner_bits}
use Rattle.scr_sq1.proofs.ShapeSteps.{half_bits-lt, read_next, read_end}
use Rattle.scr_sq1.proofs.StatePieces.{StatePieces-read}
use Rattle.scr_sq1.proofs.state.Sq1.shape.Goals as goal

pub bounds-bits : goal.bounds-bits
bounds-bits c =
    let n = 6 * c.loop-half.half + 6 in
    let l = c.loop-unit in
    omega (arith, l.invariant.read, half_bits-lt c.units-units.result n l.unit (omega (arith, l.invariant.from)) (omega (arith, ap length c.units-units.ensures.same, c.units-units.ensures.valid.size)))

pub loop-half-preserved : goal.loop-half-preserved
loop-half-preserved c =
    let h = c.loop-half in
    let l = c.loop-unit in
    let n = 6 * h.half + 6 in
    let units = c.units-units.result in
    read_next h.half l.bits units h.halves c.loop-half-test.true (ap length c.units-units.ensures.same ∙ c.units-units.ensures.valid.size) h.invariant
    (l.invariant.read ∙ ap (λ k. corner_bits (drop k (take n units))) (omega (arith, l.invariant.from, c.loop-unit-test.false)))

pub invariant_of-result : goal.invariant_of-result
invariant_of-result c =
    let l = c.loop-half in
    let pieces = StatePieces-read c.args.self.now c.units-units.result c.units-units.ensures.same c.units-units.ensures.valid in
    subst IsShape (sym (read_end l.half (4 - l.half) c.units-units.result l.halves c.loop-half-test.false (omega arith) l.invariant)) pieces.shape
