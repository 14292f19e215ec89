use Rattle.std.proofs.Common.{[], string_bytes}
use Rattle.scr_text_pages.specs.Adding.{AddsLines, words_read}
use Rattle.scr_text_pages.proofs.cutting.write_empty_lines.Given as goal

abbrev pub invariant-loop-line : goal.invariant-loop-line
invariant-loop-line l = AddsLines (words_read []) (string_bytes l.fn.text) (string_bytes l.text)
