use Rattle.scr_html.proofs.TextLemmas.{tag_one_line}
use Rattle.scr_markup.proofs.AddsLemmas.{adds_then}
use Rattle.scr_html.proofs.slot.write_label.Goals as goal

pub plain-requires-2-clause-text : goal.plain-requires-2-clause-text
plain-requires-2-clause-text c = rw (c.as_str.ensures.value, c.tag-text.ensures) (tag_one_line c.args.group.now c.valid.ensures)

pub returns : goal.returns
returns c =
    adds_then _ _ _ _ _ c.in_ok-begin.ensures (adds_then _ _ _ _ _ c.in_ok-marked.ensures
    (adds_then _ _ _ _ _ c.in_ok-plain.ensures (adds_then _ _ _ _ _ c.in_ok-plain-2.ensures c.in_ok-end.ensures)))
