use Rattle.std.proofs.Common.{◌≡◌, ℕ, ◌+◌, ◌*◌, ◌<◌, length, get_or}
use Rattle.scr_table.specs.Halves.{byte_of}
use Rattle.scr_table.proofs.entries.block_of.Given as goal

abbrev pub invariant-loop-j : goal.invariant-loop-j
invariant-loop-j l = record {
  size : length l.block ≡ 512;
  each : (j : ℕ) → j < l.j → get_or l.block j 0 ≡ byte_of l.numbers (l.start + 2 * j);
}
