use Rattle.scr_markup.proofs.AddsLemmas.{adds_then}
use Rattle.scr_html.proofs.heads.write_held.Goals as goal

pub returns : goal.returns
returns c = adds_then _ _ _ _ _ c.in_ok-begin.ensures (adds_then _ _ _ _ _ c.in_ok-write_lines.ensures c.in_ok-end.ensures)
