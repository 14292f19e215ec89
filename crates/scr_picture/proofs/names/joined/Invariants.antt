use Rattle.std.proofs.Common.{◌≡◌, ◌*◌, ◌≤◌, take}
use Rattle.arrayvec.specs.ArrayString.{array_string_len}
use Rattle.scr_picture.specs.Names.{joined_text}
use Rattle.scr_picture.proofs.names.joined.Given as goal

abbrev pub invariant-loop-letter : goal.invariant-loop-letter
invariant-loop-letter l = record {
  bytes : l.text.bytes ≡ joined_text l.alphabet (take l.letter-index l.letters);
  len : array_string_len l.text ≤ 3 * l.letter-index;
}
