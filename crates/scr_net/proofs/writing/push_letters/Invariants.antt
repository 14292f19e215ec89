use Rattle.std.proofs.Common.{◌≡◌, ◌+◌, ◌++◌, map, take}
use Rattle.arrayvec.specs.ArrayString.{array_string_len}
use Rattle.scr_net.specs.NetText.{letter_code}
use Rattle.scr_net.proofs.writing.push_letters.Given as goal

abbrev pub invariant-loop-letter : goal.invariant-loop-letter
invariant-loop-letter l = record {
  bytes : l.line.bytes ≡ l.initial.line.bytes ++ map letter_code (take l.letter-index l.letters);
  len : array_string_len l.line ≡ array_string_len l.initial.line + l.letter-index;
}
