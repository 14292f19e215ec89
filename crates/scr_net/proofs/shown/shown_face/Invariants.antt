use Rattle.std.proofs.Common.{◌≡◌, ℕ, ◌-◌, ◌<◌, [], length, get_or}
use Rattle.scr_net.specs.Geometry.{sticker_at}
use Rattle.scr_net.proofs.shown.shown_face.Given as goal

abbrev pub invariant-loop-row : goal.invariant-loop-row
invariant-loop-row g l = record {
  long : length l.rows ≡ g.row.SIDE;
  rows : (k : ℕ) → k < l.row → length (get_or l.rows k []) ≡ g.row.SIDE;
  each : (k column : ℕ) → k < l.row → column < g.row.SIDE
      → goal.F-post g l.letter (sticker_at (g.row.SIDE - 1) l.face k column) (get_or (get_or l.rows k []) column 0);
}
