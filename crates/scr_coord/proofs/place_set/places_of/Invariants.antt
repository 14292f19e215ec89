use Rattle.scr_coord.specs.Projections.{stands_in}
use Rattle.scr_coord.proofs.MarkedSteps.{FoundSoFar}
use Rattle.scr_coord.proofs.place_set.places_of.Given as goal

abbrev pub invariant-loop-place : goal.invariant-loop-place
invariant-loop-place l = FoundSoFar (stands_in l.set) l.list l.out l.found l.place
