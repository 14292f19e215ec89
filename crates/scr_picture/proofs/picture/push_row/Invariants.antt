use Rattle.std.proofs.Common.{◌≡◌, ◌+◌, ◌≤◌, ◌++◌}
use Rattle.std.specs.Prelude.{flat_map}
use Rattle.std.specs.List.{range_with_len}
use Rattle.arrayvec.specs.ArrayString.{array_string_len}
use Rattle.scr_net.specs.Nets.{cell}
use Rattle.scr_picture.specs.declared.names.Alphabet.TheVariants.{Cube}
use Rattle.scr_picture.specs.Names.{name_in}
use Rattle.scr_picture.proofs.picture.push_row.Given as goal

abbrev pub invariant-loop-column : goal.invariant-loop-column
invariant-loop-column g l = record {
  bytes : l.text.bytes ≡ l.initial.text.bytes ++ flat_map (λ column. name_in Cube (cell l.net l.face l.row column)) (range_with_len 0 l.column);
  len : array_string_len l.text ≤ array_string_len l.initial.text + l.column;
}
