use Rattle.std.proofs.Common.{◌≡◌, true, drop, length, chars, string_bytes, encode_utf8_all, ◌++◌}
use Rattle.scr_layout.specs.Name.{spaced}
use Rattle.scr_layout.proofs.NameLemmas.{ahead}
use Rattle.scr_layout.proofs.name.spaced_name.Given as goal

abbrev pub invariant-loop-letter : goal.invariant-loop-letter
invariant-loop-letter l = record {
  waits : l.waits ≡ true → l.begun ≡ true;
  text : string_bytes l.text ++ encode_utf8_all (ahead l.begun l.waits (drop (length l.yielded) (chars l.name)))
      ≡ encode_utf8_all (spaced (chars l.name));
}
