use Rattle.std.proofs.Common.{◌≡◌, ℕ, ◌+◌, ◌<◌, length, get_or}
use Rattle.scr_table.specs.Filled.{Agrees, next_entry}
use Rattle.scr_table.proofs.levels.checked_block.Given as goal

abbrev pub invariant-loop-position : goal.invariant-loop-position
invariant-loop-position l =
    (length l.next ≡ 1024)
    × ((k : ℕ) → l.start + k < l.position → Agrees l.level (get_or l.entries (l.start + k) 0) (get_or l.least k 0))
    × ((k : ℕ) → l.start + k < l.position
    → get_or l.next k 0 ≡ next_entry l.level (get_or l.entries (l.start + k) 0) (get_or l.least k 0))
