use Rattle.std.proofs.Common.{◌≤◌}
use Rattle.scr_html.proofs.sizes.extent.Given as goal

abbrev pub invariant-loop-scramble : goal.invariant-loop-scramble
invariant-loop-scramble l = (1 ≤ l.rows) × (l.rows ≤ 256) × (1 ≤ l.columns) × (l.columns ≤ 300)
