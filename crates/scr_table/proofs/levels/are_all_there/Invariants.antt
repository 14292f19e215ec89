use Rattle.std.proofs.Common.{ℕ, ◌<◌, None}
use Rattle.std.specs.Prelude.{slice_index_or}
use Rattle.scr_table.specs.Filled.{IsThere}
use Rattle.scr_table.proofs.levels.are_all_there.Given as goal

abbrev pub invariant-loop-block : goal.invariant-loop-block
invariant-loop-block l = (k : ℕ) → k < l.block → IsThere (slice_index_or l.blocks k None)
