use Rattle.std.proofs.Common.{◌++◌, ap}
use Rattle.std.specs.Prelude.{flat_map, zip}
use Rattle.scr_layout.specs.Texts.{labels_of}
use Rattle.scr_html.specs.Pages.{head_marks, slot_marks}
use Rattle.scr_markup.proofs.AddsLemmas.{adds_then, adds_more, adds_as}
use Rattle.scr_html.proofs.group.write_page.Goals as goal

pub returns : goal.returns
returns c =
    let group = c.args.group.now in
    adds_as _ _ _ _ (ap (λ ss. head_marks c.args.look.now.pictures c.args.look.now.competition.now group ++ flat_map (slot_marks c.args.look.now.pictures) (zip (labels_of group.event) ss)) c.scrambles.ensures.value)
    (adds_more _ _ _ _ (adds_then _ _ _ _ _ c.in_ok-write_heads.ensures c.in_ok-write_slots.ensures) c.in_ok-end.ensures)
