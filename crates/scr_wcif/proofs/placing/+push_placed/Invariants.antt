use Rattle.std.proofs.Common.{length}
use Rattle.scr_wcif.proofs.placing.+push_placed.Given as goal

abbrev pub decreases-push_placed : goal.decreases-push_placed
decreases-push_placed l = length l.named.now
