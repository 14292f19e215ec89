use Rattle.std.specs.Prelude.{[], string_bytes}
use Rattle.scr_markup.specs.Tokens.{Adds}
use Rattle.scr_drawing.proofs.drawing.add_parts.Given as goal

abbrev pub invariant-loop-colour : goal.invariant-loop-colour
invariant-loop-colour l = Adds (string_bytes l.initial.page) (string_bytes l.page) []
