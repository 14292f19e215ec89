use Rattle.scr_markup.proofs.AddsLemmas.{adds_then}
use Rattle.scr_html.proofs.heads.write_heads.Goals as goal

pub returns : goal.returns
returns c =
    adds_then _ _ _ _ _ c.in_ok-begin_page.ensures (adds_then _ _ _ _ _ c.in_ok-write_competition.ensures
    (adds_then _ _ _ _ _ c.in_ok-write_title.ensures (adds_then _ _ _ _ _ c.in_ok-write_round.ensures
    (adds_then _ _ _ _ _ c.in_ok-write_held.ensures c.in_ok-write_legend.ensures))))
