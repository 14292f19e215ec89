use Rattle.std.proofs.Common.{◌≡◌, ℕ, ◌*◌, ◌<◌, [], length, get_or}
use Rattle.scr_table.specs.Halves.{IsBlockFrom}
use Rattle.scr_table.proofs.entries.blocks_of.Given as goal

abbrev pub invariant-loop-block : goal.invariant-loop-block
invariant-loop-block l = record {
  count : length l.blocks.items ≡ l.block;
  each : (b : ℕ) → b < length l.blocks.items → IsBlockFrom l.numbers (b * 1024) (get_or l.blocks.items b []);
}
