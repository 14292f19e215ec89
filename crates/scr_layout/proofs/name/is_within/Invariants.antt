use Rattle.std.proofs.Common.{◌≡◌, ◌+◌, drop, length, chars}
use Rattle.scr_layout.specs.Name.{width}
use Rattle.scr_layout.proofs.name.is_within.Given as goal

abbrev pub invariant-loop-letter : goal.invariant-loop-letter
invariant-loop-letter l = l.left + width (chars l.text) ≡ l.most + width (drop (length l.yielded) (chars l.text))
