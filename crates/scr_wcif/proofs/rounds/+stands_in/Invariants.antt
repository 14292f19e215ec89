use Rattle.std.proofs.Common.{length}
use Rattle.scr_wcif.proofs.rounds.+stands_in.Given as goal

abbrev pub decreases-stands_in : goal.decreases-stands_in
decreases-stands_in l = length l.others.now
