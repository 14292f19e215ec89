use Rattle.std.proofs.Common.{◌≡◌, map, take}
use Rattle.std.specs.Prelude.{string_bytes}
use Rattle.scr_notation.specs.Spelling.{text_of}
use Rattle.scr_wcif.proofs.taking.texts_of_scrambles.Given as goal

abbrev pub invariant-loop-scramble : goal.invariant-loop-scramble
invariant-loop-scramble l = map string_bytes l.texts.items ≡ map (λ s. text_of s.turns) (take l.scramble-index l.scrambles)
