use Rattle.std.proofs.Common.{ℕ, ◌<◌, None}
use Rattle.std.specs.Prelude.{slice_index_or}
use Rattle.scr_search.specs.Spread.{IsThere}
use Rattle.scr_search.proofs.numbers.are_all_there.Given as goal

abbrev pub invariant-loop-block : goal.invariant-loop-block
invariant-loop-block l = (k : ℕ) → k < l.block → IsThere (slice_index_or l.lists k None)
