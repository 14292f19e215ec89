use Rattle.std.proofs.Common.{length}
use Rattle.scr_pages.proofs.survey.+first_barred.Given as goal

abbrev pub decreases-first_barred : goal.decreases-first_barred
decreases-first_barred l = length l.scrambles.now
