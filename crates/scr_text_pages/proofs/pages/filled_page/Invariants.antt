use Rattle.std.proofs.Common.{◌≤◌, ◌<◌, ◌-◌, length}
use Rattle.scr_text_pages.proofs.pages.filled_page.Given as goal

abbrev pub invariant-scrambles : goal.invariant-scrambles
invariant-scrambles l = record {
  more : l.from < l.end;
  within : l.end ≤ length l.scrambles;
  lines : l.lines ≤ 600;
}

abbrev pub decreases-scrambles : goal.decreases-scrambles
decreases-scrambles l = length l.scrambles - l.end
