use Rattle.std.proofs.Common.{length}
use Rattle.scr_html.proofs.words.+write_rows.Given as goal

abbrev pub decreases-write_rows : goal.decreases-write_rows
decreases-write_rows l = length l.turns.now
