use Rattle.scr_markup.proofs.AddsLemmas.{adds_then}
use Rattle.scr_html.proofs.head.write_head.Goals as goal

pub returns : goal.returns
returns c =
    rw (← c.in_ok-push_str.ensures.bytes)
    (adds_then _ _ _ _ _ c.in_ok-open.ensures.adds (adds_then _ _ _ _ _ c.in_ok-begin.ensures
    (adds_then _ _ _ _ _ c.in_ok-open-2.ensures.adds (adds_then _ _ _ _ _ c.in_ok-write_title.ensures
    (adds_then _ _ _ _ _ c.in_ok-write_rules.ensures (adds_then _ _ _ _ _ c.in_ok-end.ensures c.in_ok-begin-2.ensures))))))
