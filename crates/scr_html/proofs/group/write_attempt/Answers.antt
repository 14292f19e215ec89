use Rattle.scr_markup.proofs.AddsLemmas.{adds_then, adds_more}
use Rattle.scr_html.proofs.group.write_attempt.Goals as goal

pub returns : goal.returns
returns c =
    adds_more _ _ _ _ (adds_more _ _ _ _
    (adds_then _ _ _ _ _ c.in_ok-write_heads.ensures c.in_ok-write_slot.ensures) c.in_ok-write_fields.ensures) c.in_ok-end.ensures
