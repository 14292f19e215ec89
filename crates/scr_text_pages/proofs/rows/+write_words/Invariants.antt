use Rattle.std.proofs.Common.{length}
use Rattle.scr_text_pages.proofs.rows.+write_words.Given as goal

abbrev pub decreases-write_words : goal.decreases-write_words
decreases-write_words l = length l.places.now
