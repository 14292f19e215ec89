use Rattle.std.proofs.Common.{string_bytes}
use Rattle.scr_text_pages.specs.Adding.{AddsLines, slots_between, slots_read}
use Rattle.scr_text_pages.proofs.page.write_slots.Given as goal

abbrev pub invariant-loop-place : goal.invariant-loop-place
invariant-loop-place l = AddsLines (slots_read (slots_between l.spacing.pictures l.from l.place l.group)) (string_bytes l.fn.text) (string_bytes l.text)
