use Rattle.std.proofs.Common.{◌≡◌, take}
use Rattle.scr_notation.specs.Spelling.{text_of}
use Rattle.scr_notation.proofs.printing.print.Given as goal

abbrev pub invariant-loop-turn : goal.invariant-loop-turn
invariant-loop-turn l = l.text.bytes ≡ text_of (take l.turn-index l.turn-items)
