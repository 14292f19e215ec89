use Rattle.scr_markup.proofs.AddsLemmas.{adds_then}
use Rattle.scr_html.proofs.words.go_to_row.Goals as goal

pub loop-row-preserved : goal.loop-row-preserved
loop-row-preserved c = adds_then _ _ _ _ _ c.loop-row.invariant (adds_then _ _ _ _ _ c.in_ok-end.ensures c.in_ok-begin.ensures)
