use Rattle.scr_rank.proofs.PlaceSetSteps.{IsUnranked}
use Rattle.scr_rank.proofs.place_sets.Choose.unrank.Given as goal

abbrev pub invariant-loop-place : goal.invariant-loop-place
invariant-loop-place g l = IsUnranked l.fn.number g.row.N g.row.K l.out l.place l.chosen l.rest l.sets
