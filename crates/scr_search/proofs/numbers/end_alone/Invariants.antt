use Rattle.std.proofs.Common.{◌≡◌, ℕ, ◌/◌, ◌%◌, ◌^◌, ◌<◌, None, length}
use Rattle.std.specs.Prelude.{Contains, slice_index_or}
use Rattle.scr_search.specs.Spread.{numbers_in}
use Rattle.scr_search.proofs.numbers.end_alone.Given as goal

abbrev pub invariant-loop-block : goal.invariant-loop-block
invariant-loop-block g l =
    let end = l.extent.end in
    (length l.all.items ≡ l.block)
    × ((k : ℕ) → k < l.block → end / 2 ^ 32 ≡ k → Contains (numbers_in (slice_index_or l.all.items k None)) (end % 2 ^ 32))
