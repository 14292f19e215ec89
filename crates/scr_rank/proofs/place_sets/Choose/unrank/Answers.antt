use Rattle.std.proofs.Common.{arith}
use Rattle.std.proofs.lemmas.List.{length-replicate}
use Rattle.scr_combinatorics.proofs.Numberings.{only_one}
use Rattle.scr_combinatorics.proofs.PlaceSets.{place_sets_one_to_one}
use Rattle.scr_rank.proofs.PlaceSetSteps.{unranked_start, unranked_next, unranked_takes, unranked_past, unrank_end}
use Rattle.scr_rank.proofs.place_sets.Choose.unrank.Goals as goal
use Rattle.scr_rank.proofs.place_sets.Choose.unrank.Goals.{then-rest-with_place, else-rest-with_place}

pub loop-place-init : goal.loop-place-init
loop-place-init g c = unranked_start c.args.number g.row.N g.row.K _ _ (length-replicate g.row.K 0) c.count_sets-sets.ensures

pub overflow_mul-with_place : goal.overflow_mul-with_place
overflow_mul-with_place g c =
    omega (arith, (unranked_next c.requires.size c.requires.below c.loop-place-test.true c.loop-place.invariant).small)

pub loop-place-preserved : goal.loop-place-preserved
loop-place-preserved g c =
    elim c.if-rest-with_place.branch [
      | then-rest-with_place w ↦
          rw (w.out-is, w.chosen-is, w.rest-is, w.sets-is) (unranked_takes c.requires.size c.requires.below c.loop-place-test.true c.loop-place.invariant w.if-rest-with_place.true)
      | else-rest-with_place w ↦
          rw (w.out-is, w.chosen-is, w.rest-is, w.sets-is) (unranked_past c.requires.size c.requires.below c.loop-place-test.true c.loop-place.invariant w.if-rest-with_place.false)
    ]

pub returns-clause-list : goal.returns-clause-list
returns-clause-list g c = unrank_end c.args.number g.row.N g.row.K _ _ _ _ _ c.requires.below c.loop-place-test.false c.loop-place.invariant

pub returns-clause-inverse : goal.returns-clause-inverse
returns-clause-inverse g c value valid number =
    only_one (place_sets_one_to_one g.row.N g.row.K) c.args.number c.loop-place.out value (returns-clause-list g c) valid number
