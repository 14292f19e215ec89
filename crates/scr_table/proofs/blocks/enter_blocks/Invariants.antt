use Rattle.std.proofs.Common.{◌≡◌, ℕ, ◌*◌, ◌<◌, ◌≤◌, length, get_or}
use Rattle.scr_table.specs.Filled.{entered}
use Rattle.scr_table.proofs.blocks.enter_blocks.Given as goal

abbrev pub invariant-loop-block : goal.invariant-loop-block
invariant-loop-block l =
    ((p : ℕ) → p < length l.entries → p < 1024 * l.block → get_or l.entries p 0 ≡ entered l.blocks l.initial.entries p)
    × ((p : ℕ) → 1024 * l.block ≤ p → get_or l.entries p 0 ≡ get_or l.initial.entries p 0)
