use Rattle.std.proofs.Common.{◌≡◌, ◌≤◌, drop}
use Rattle.scr_layout.specs.Rows.{greater, rows_of}
use Rattle.scr_layout.proofs.rows.row_count.Given as goal

abbrev pub invariant-loop-place : goal.invariant-loop-place
invariant-loop-place l = record {
  some : 1 ≤ l.rows;
  few : l.rows ≤ 256;
  more : greater l.rows (rows_of (drop l.place-index l.places)) ≡ rows_of l.places;
}
