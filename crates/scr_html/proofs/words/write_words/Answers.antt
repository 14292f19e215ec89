use Rattle.std.proofs.Common.{ap}
use Rattle.scr_html.specs.Pages.{word_marks}
use Rattle.scr_markup.proofs.AddsLemmas.{adds_then, adds_more, adds_as}
use Rattle.scr_html.proofs.words.write_words.Goals as goal

pub returns : goal.returns
returns c =
    adds_as _ _ _ _ (ap word_marks c.turns.ensures.value)
    (adds_more _ _ _ _ (adds_more _ _ _ _
    (adds_then _ _ _ _ _ c.in_ok-begin.ensures (adds_then _ _ _ _ _ c.in_ok-begin-2.ensures c.in_ok-write_rows.ensures))
    c.in_ok-end.ensures) c.in_ok-end-2.ensures)
