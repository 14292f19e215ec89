use Rattle.std.proofs.Common.{◌≡◌, ◌+◌, ◌*◌, ◌≤◌, ◌++◌}
use Rattle.std.specs.Prelude.{flat_map}
use Rattle.std.specs.List.{range_with_len}
use Rattle.arrayvec.specs.ArrayString.{array_string_len}
use Rattle.scr_picture.specs.Pictures.{row_letters}
use Rattle.scr_picture.proofs.picture.push_face.Given as goal

abbrev pub invariant-loop-row : goal.invariant-loop-row
invariant-loop-row g l = record {
  bytes : l.text.bytes ≡ l.initial.text.bytes ++ flat_map (row_letters g.row.SIDE l.net l.face) (range_with_len 0 l.row);
  len : array_string_len l.text ≤ array_string_len l.initial.text + 7 * l.row;
}
