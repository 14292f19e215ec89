use Rattle.std.proofs.Common.{◌≡◌, ℕ, ◌-◌, ◌<◌, length, get_or}
use Rattle.scr_net.specs.Geometry.{sticker_at}
use Rattle.scr_net.proofs.shown.shown_row.Given as goal

abbrev pub invariant-loop-column : goal.invariant-loop-column
invariant-loop-column g l = record {
  long : length l.letters ≡ g.row.SIDE;
  each : (k : ℕ) → k < l.column
      → goal.F-post g l.letter (sticker_at (g.row.SIDE - 1) l.face l.row k) (get_or l.letters k 0);
}
