use Rattle.std.proofs.Common.{string_bytes, take}
use Rattle.scr_net.specs.NetText.{net_lines}
use Rattle.scr_text_pages.specs.Adding.{AddsLines, words_read}
use Rattle.scr_text_pages.proofs.nets.write_lines.Given as goal

abbrev pub invariant-loop-place : goal.invariant-loop-place
invariant-loop-place g l =
    AddsLines (words_read (take l.place (net_lines g.row.SIDE l.net))) (string_bytes l.fn.text) (string_bytes l.text)
