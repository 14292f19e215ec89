use Rattle.std.specs.Prelude.{[], string_bytes}
use Rattle.scr_markup.specs.Tokens.{Adds}
use Rattle.scr_drawing.proofs.drawing.add_under.Given as goal

abbrev pub invariant-loop-element : goal.invariant-loop-element
invariant-loop-element l = Adds (string_bytes l.initial.page) (string_bytes l.page) []
