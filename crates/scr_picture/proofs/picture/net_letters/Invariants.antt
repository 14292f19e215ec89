use Rattle.std.proofs.Common.{◌≡◌, ◌*◌, ◌≤◌}
use Rattle.std.specs.Prelude.{flat_map}
use Rattle.std.specs.List.{range_with_len}
use Rattle.arrayvec.specs.ArrayString.{array_string_len}
use Rattle.scr_picture.specs.Pictures.{face_letters}
use Rattle.scr_picture.proofs.picture.net_letters.Given as goal

abbrev pub invariant-loop-face : goal.invariant-loop-face
invariant-loop-face g l = record {
  bytes : l.text.bytes ≡ flat_map (face_letters g.row.SIDE l.net) (range_with_len 0 l.face);
  len : array_string_len l.text ≤ 49 * l.face;
}
