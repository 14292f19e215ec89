use Rattle.std.proofs.Common.{length}
use Rattle.scr_markup.proofs.writing.+push_attributes.Given as goal

abbrev pub decreases-push_attributes : goal.decreases-push_attributes
decreases-push_attributes l = length l.attributes.now
