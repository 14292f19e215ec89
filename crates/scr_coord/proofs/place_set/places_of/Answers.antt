use Rattle.std.proofs.Common.{sym, ◌∙◌}
use Rattle.scr_coord.specs.Projections.{stands_in}
use Rattle.scr_coord.proofs.MarkedSteps.{found_room, found_more, found_none, found_all}
use Rattle.scr_coord.proofs.place_set.places_of.Goals as goal
use Rattle.scr_coord.proofs.place_set.places_of.Goals.{then-contains, else-contains}

pub bounds-out-found : goal.bounds-out-found
bounds-out-found c =
    found_room (stands_in c.args.set.now) c.args.list.now c.loop-place.out c.loop-place.found c.loop-place.place c.loop-place.invariant
    c.loop-place-test.true (c.requires.fits ∙ sym c.loop-place.auto.out) (sym c.contains.ensures.value ∙ c.if-contains.true)

pub loop-place-preserved : goal.loop-place-preserved
loop-place-preserved c =
    let marked = stands_in c.args.set.now in
    let list = c.args.list.now in
    let out = c.loop-place.out in
    let found = c.loop-place.found in
    let place = c.loop-place.place in
    elim c.if-contains.branch [
      | then-contains w ↦
          rw (w.out-is, w.found-is)
          (found_more marked list out found place c.loop-place.invariant c.loop-place-test.true (c.requires.fits ∙ sym c.loop-place.auto.out)
          (sym c.contains.ensures.value ∙ w.if-contains.true))
      | else-contains w ↦
          rw (w.out-is, w.found-is)
          (found_none marked list out found place c.loop-place.invariant c.loop-place-test.true
          (sym c.contains.ensures.value ∙ w.if-contains.false))
    ]

pub returns : goal.returns
returns c =
    found_all (stands_in c.args.set.now) c.args.list.now c.loop-place.out c.loop-place.found c.loop-place.place c.loop-place.invariant
    c.loop-place-test.false (c.requires.fits ∙ sym c.loop-place.auto.out)
