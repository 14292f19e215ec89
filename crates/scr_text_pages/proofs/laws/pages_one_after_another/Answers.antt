use Rattle.scr_text_pages.proofs.SplitLemmas.{pages-between, no_pages}
use Rattle.scr_text_pages.proofs.laws.pages_one_after_another.Goals as goal

pub returns : goal.returns
returns c = record { none = no_pages; both = pages-between }
