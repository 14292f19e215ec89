use Rattle.std.proofs.Common.{length}
use Rattle.scr_wcif.proofs.rounds.+push_events.Given as goal

abbrev pub decreases-push_events : goal.decreases-push_events
decreases-push_events l = length l.events.now
