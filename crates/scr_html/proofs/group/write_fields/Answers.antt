use Rattle.scr_markup.proofs.AddsLemmas.{adds_then}
use Rattle.scr_html.proofs.group.write_fields.Goals as goal

pub returns : goal.returns
returns c =
    adds_then _ _ _ _ _ c.in_ok-begin.ensures (adds_then _ _ _ _ _ c.in_ok-plain.ensures
    (adds_then _ _ _ _ _ c.in_ok-plain-2.ensures (adds_then _ _ _ _ _ c.in_ok-end.ensures
    (adds_then _ _ _ _ _ c.in_ok-begin-2.ensures (adds_then _ _ _ _ _ c.in_ok-write_numbers.ensures c.in_ok-end-2.ensures)))))
