use Rattle.std.proofs.Common.{◌≤◌}
use Rattle.scr_layout.proofs.rows.cell_count.Given as goal

abbrev pub invariant-loop-index : goal.invariant-loop-index
invariant-loop-index l = l.cells ≤ l.index
