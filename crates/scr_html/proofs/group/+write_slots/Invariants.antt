use Rattle.std.proofs.Common.{length}
use Rattle.scr_html.proofs.group.+write_slots.Given as goal

abbrev pub decreases-write_slots : goal.decreases-write_slots
decreases-write_slots l = length l.scrambles.now
