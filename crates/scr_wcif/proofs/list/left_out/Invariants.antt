use Rattle.std.proofs.Common.{◌≡◌, ◌++◌, drop, string_bytes}
use Rattle.scr_wcif.specs.Listed.{left_out_text}
use Rattle.scr_wcif.proofs.list.left_out.Given as goal

abbrev pub invariant-loop-round : goal.invariant-loop-round
invariant-loop-round l = string_bytes l.text ++ left_out_text (drop l.round-index l.named) ≡ left_out_text l.named
