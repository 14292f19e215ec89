use Rattle.scr_rank.proofs.PlaceSetSteps.{IsRanked}
use Rattle.scr_rank.proofs.place_sets.Choose.rank.Given as goal

abbrev pub invariant-loop-place : goal.invariant-loop-place
invariant-loop-place g l = IsRanked l.value g.row.N g.row.K l.place l.passed l.number l.sets
