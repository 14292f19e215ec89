use Rattle.std.proofs.Common.{◌≡◌, ◌+◌, ◌*◌, ◌≤◌, ◌++◌, ◌∷◌, take}
use Rattle.std.specs.Prelude.{flat_map, replicate}
use Rattle.arrayvec.specs.ArrayString.{array_string_len}
use Rattle.scr_net.specs.NetText.{row_text}
use Rattle.scr_net.proofs.writing.line_beside.Given as goal

abbrev pub invariant-loop-face : goal.invariant-loop-face
invariant-loop-face g l = record {
  bytes : l.line.bytes ≡ (replicate l.fn.indent 32 ++ row_text l.net l.row l.fn.first) ++ flat_map (λ face. 32 ∷ row_text l.net l.row face) (take l.face-index l.others);
  len : array_string_len l.line ≤ 15 + 8 * l.face-index;
}
