use Rattle.std.proofs.Common.{◌-◌, ◌<◌, ap, ◌∙◌, arith}
use Rattle.scr_sq1.specs.Shapes.{shape_number}
use Rattle.scr_sq1.proofs.ShapeSteps.{counted_whole, lower_start, lower_small, lower_next, lower_end, ways_table, corners_table-at}
use Rattle.scr_sq1.proofs.shapes.shape_number.Goals as goal

pub loop-lower-init : goal.loop-lower-init
loop-lower-init c =
    let p = c.loop-place in
    lower_start p.place p.corners c.from-half.result p.number c.shape.inside.halves c.loop-place-test.true c.shape.invariant c.from-half.ensures p.invariant

pub overflow_add-number-in-loop-lower : goal.overflow_add-number-in-loop-lower
overflow_add-number-in-loop-lower c =
    let p = c.loop-place in
    let l = c.loop-lower in
    let i = l.invariant in
    let low : l.lower < 13 = omega (arith, i.first.below, c.loop-lower-test.true) in
    omega (arith, ways_table (3 - p.place) p.corners l.lower (omega arith) i.few low, lower_small p.place p.corners c.from-half.result l.lower l.number c.shape.inside.halves i c.loop-lower-test.true c.shape.invariant)

pub loop-lower-preserved : goal.loop-lower-preserved
loop-lower-preserved c =
    let p = c.loop-place in
    let l = c.loop-lower in
    let i = l.invariant in
    let low : l.lower < 13 = omega (arith, i.first.below, c.loop-lower-test.true) in
    lower_next p.place p.corners c.from-half.result l.lower l.number c.shape.inside.halves i _ (ways_table (3 - p.place) p.corners l.lower (omega arith) i.few low) c.loop-lower-test.true

pub overflow_sub-corners : goal.overflow_sub-corners
overflow_sub-corners c = omega (arith, c.loop-lower.invariant.first.few, corners_table-at c.from-half.result)

pub loop-place-preserved : goal.loop-place-preserved
loop-place-preserved c =
    let p = c.loop-place in
    let l = c.loop-lower in
    lower_end p.place p.corners c.from-half.result l.lower l.number c.shape.inside.halves l.invariant _ (corners_table-at c.from-half.result) c.loop-lower-test.false c.loop-place-test.true

pub returns-clause-number : goal.returns-clause-number
returns-clause-number c =
    let l = c.loop-place in
    counted_whole l.place l.corners l.number c.shape.inside.halves c.loop-place-test.false l.invariant ∙ ap shape_number c.shape.view_is
