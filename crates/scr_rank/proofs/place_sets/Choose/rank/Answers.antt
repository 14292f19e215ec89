use Rattle.std.proofs.Common.{◌≡◌, ◌<◌, slice_index, arith}
use Rattle.scr_rank.proofs.PlaceSetSteps.{ranked_next, ranked_low, ranked_here, ranked_past}
use Rattle.scr_rank.proofs.place_sets.Choose.rank.Goals as goal
use Rattle.scr_rank.proofs.place_sets.Choose.rank.Goals.{then-passed+then-value-passed, else-passed, else-passed-via-then-passed+else-value-passed, else-passed-via-else-passed}

pub overflow_mul-with_place : goal.overflow_mul-with_place
overflow_mul-with_place g c = omega (arith, (ranked_next c.requires.size c.requires.valid c.loop-place-test.true c.loop-place.invariant).small)

pub overflow_add-number : goal.overflow_add-number
overflow_add-number g c = omega (arith, ranked_low c.requires.size c.requires.valid c.loop-place-test.true c.loop-place.invariant)

pub overflow_sub-sets : goal.overflow_sub-sets
overflow_sub-sets g c =
    let next = ranked_next c.requires.size c.requires.valid c.loop-place-test.true c.loop-place.invariant in
    omega (arith, next.with_place, next.split)

pub loop-place-preserved : goal.loop-place-preserved
loop-place-preserved g c =
    let l = c.loop-place in
    elim c.if-passed.branch [
      | then-passed+then-value-passed w ↦
          rw (w.passed-is, w.number-is, w.sets-is) (ranked_here c.requires.size c.requires.valid c.loop-place-test.true l.invariant w.if-passed.true w.if-value-passed.true)
      | else-passed w ↦
          let other : l.passed < g.row.K → slice_index c.args.value.now l.passed ≡ l.place → ⊥ =
          elim w.else-passed.branch [
            | else-passed-via-then-passed+else-value-passed v ↦ λ more. v.if-value-passed.false
            | else-passed-via-else-passed v ↦ λ more. let past = v.if-passed.false in absurd (omega arith)
          ] in
          rw (w.passed-is, w.number-is, w.sets-is) (ranked_past c.requires.size c.requires.valid c.loop-place-test.true l.invariant other)
    ]
