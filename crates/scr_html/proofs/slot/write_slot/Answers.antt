use Rattle.scr_markup.proofs.AddsLemmas.{adds_then, adds_more}
use Rattle.scr_html.proofs.slot.write_slot.Goals as goal

pub returns : goal.returns
returns c =
    adds_more _ _ _ _ (adds_then _ _ _ _ _ c.in_ok-open.ensures.adds (adds_then _ _ _ _ _ c.in_ok-write_label.ensures
    (adds_then _ _ _ _ _ c.in_ok-write_words.ensures c.in_ok-write_picture.ensures))) c.in_ok-end.ensures
