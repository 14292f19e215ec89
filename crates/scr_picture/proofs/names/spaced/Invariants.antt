use Rattle.std.proofs.Common.{◌≡◌, ◌+◌, ◌*◌, ◌≤◌, ◌++◌, ◌∷◌, take}
use Rattle.std.specs.Prelude.{flat_map}
use Rattle.arrayvec.specs.ArrayString.{array_string_len}
use Rattle.scr_picture.specs.Names.{name_in}
use Rattle.scr_picture.proofs.names.spaced.Given as goal

abbrev pub invariant-loop-letter : goal.invariant-loop-letter
invariant-loop-letter l = record {
  bytes : l.text.bytes ≡ l.initial.text.bytes ++ flat_map (λ other. 32 ∷ name_in l.alphabet other) (take l.letter-index l.others);
  len : array_string_len l.text ≤ array_string_len l.initial.text + 4 * l.letter-index;
}
