use Rattle.std.proofs.Common.{◌≡◌, drop}
use Rattle.scr_wcif.specs.Filling.{sets_at}
use Rattle.scr_wcif.proofs.filling.sets_of_round.Given as goal

abbrev pub invariant-loop-given : goal.invariant-loop-given
invariant-loop-given l = sets_at (drop l.given-index l.rounds) l.id ≡ sets_at l.rounds l.id
