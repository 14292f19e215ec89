use Rattle.std.proofs.Common.{ap}
use Rattle.scr_html.specs.Pages.{word_marks}
use Rattle.scr_html.proofs.PartLemmas.{split_first}
use Rattle.scr_markup.proofs.AddsLemmas.{adds_then, adds_as}
use Rattle.scr_html.proofs.words.+write_rows.Goals as goal

pub returns-in_ok-write_rows-in-len1-up-places : goal.returns-in_ok-write_rows-in-len1-up-places
returns-in_ok-write_rows-in-len1-up-places t c =
    adds_as _ _ _ _ (ap word_marks (split_first c.args.turns.now _ c.in-len1-up.len_at_least))
    (adds_then _ _ _ _ _ c.in_ok-go_to_row-in-len1-up-places.ensures (adds_then _ _ _ _ _ c.in_ok-write_word-in-len1-up-places.ensures c.in_ok-write_rows-in-len1-up-places.ensures))
