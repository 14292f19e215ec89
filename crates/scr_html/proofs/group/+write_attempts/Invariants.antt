use Rattle.std.proofs.Common.{length}
use Rattle.scr_html.proofs.group.+write_attempts.Given as goal

abbrev pub decreases-write_attempts : goal.decreases-write_attempts
decreases-write_attempts l = length l.scrambles.now
