use Rattle.std.proofs.Common.{◌≡◌, ℕ, ◌+◌, ◌≤◌, ◌<◌}
use Rattle.std.specs.Prelude.{slice_index}
use Rattle.scr_table.specs.declared.table.TheConstants.{GREATEST_BOUND}
use Rattle.scr_table_text.proofs.writing.line_count.Given as goal

abbrev pub invariant-loop-distance : goal.invariant-loop-distance
invariant-loop-distance l = (d : ℕ) → l.distance ≤ d → d < GREATEST_BOUND + 1 → slice_index l.counts d ≡ 0
