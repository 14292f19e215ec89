use Rattle.std.proofs.Common.{◌≡◌, drop, length, chars, string_bytes, encode_utf8_all, ◌++◌}
use Rattle.scr_layout.specs.Name.{first_wide}
use Rattle.scr_layout.proofs.name.first_letters.Given as goal

abbrev pub invariant-loop-letter : goal.invariant-loop-letter
invariant-loop-letter l =
    string_bytes l.text ++ encode_utf8_all (first_wide l.left (drop (length l.yielded) (chars l.name)))
    ≡ encode_utf8_all (first_wide l.most (chars l.name))
