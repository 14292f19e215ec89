use Rattle.std.proofs.Common.{string_bytes}
use Rattle.scr_text_pages.specs.Adding.{AddsDashes}
use Rattle.scr_text_pages.proofs.cutting.write_dashes.Given as goal

abbrev pub invariant-loop-place : goal.invariant-loop-place
invariant-loop-place l = AddsDashes (string_bytes l.fn.text) (string_bytes l.text)
