use Rattle.std.proofs.Common.{◌-◌, arith}
use Rattle.scr_sq1.proofs.ShapeSteps.{made_start, falling_start, falling_next, falling_few, falling_found, ways_table, corners_table-at}
use Rattle.scr_sq1.proofs.shapes.shape_at.Goals as goal

pub loop-place-init : goal.loop-place-init
loop-place-init c = made_start c.args.number c.requires

pub loop-half-init : goal.loop-half-init
loop-half-init c =
    let p = c.loop-place in
    falling_start p.place p.corners p.rest c.args.number p.halves c.loop-place-test.true p.invariant

pub loop-half-preserved : goal.loop-half-preserved
loop-half-preserved c =
    let p = c.loop-place in
    let l = c.loop-half in
    falling_next p.place (3 - p.place) p.corners l.half l.rest c.args.number p.halves l.invariant _
    (ways_table (3 - p.place) p.corners l.half (omega arith) l.invariant.few l.invariant.low) c.loop-half-test.true

pub overflow_sub-corners-in-loop-place : goal.overflow_sub-corners-in-loop-place
overflow_sub-corners-in-loop-place c =
    let p = c.loop-place in
    let l = c.loop-half in
    omega (
      arith,
      corners_table-at l.half,
      falling_few p.place (3 - p.place) p.corners l.half l.rest c.args.number p.halves l.invariant _
          (ways_table (3 - p.place) p.corners l.half (omega arith) l.invariant.few l.invariant.low) c.loop-half-test.false,
    )

pub loop-place-preserved : goal.loop-place-preserved
loop-place-preserved c =
    let p = c.loop-place in
    let l = c.loop-half in
    falling_found p.place (3 - p.place) p.corners l.half l.rest c.args.number p.halves l.invariant _
    (ways_table (3 - p.place) p.corners l.half (omega arith) l.invariant.few l.invariant.low) c.loop-half-test.false
    c.loop-place-test.true (omega arith) _ (corners_table-at l.half)
