use Rattle.std.proofs.Common.{◌≡◌, ◌≤◌, length}
use Rattle.scr_layout.proofs.rows.places.Given as goal

abbrev pub invariant-loop-index : goal.invariant-loop-index
invariant-loop-index l = record { count : length l.places.items ≡ l.index; cells : l.cell ≤ l.index }
