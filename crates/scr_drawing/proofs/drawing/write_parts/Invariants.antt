use Rattle.std.proofs.Common.{◌*◌, ◌≤◌}
use Rattle.arrayvec.specs.ArrayString.{array_string_len}
use Rattle.scr_markup.specs.Tokens.{HasNoLineFeed}
use Rattle.scr_drawing.proofs.drawing.write_parts.Given as goal

abbrev pub invariant-loop-number : goal.invariant-loop-number
invariant-loop-number l = record {
  line : HasNoLineFeed l.text.bytes;
  len : array_string_len l.text ≤ 30 * l.number;
}
