use Rattle.std.proofs.Common.{length}
use Rattle.scr_wcif.proofs.rounds.+push_rounds.Given as goal

abbrev pub decreases-push_rounds : goal.decreases-push_rounds
decreases-push_rounds l = length l.rounds.now
