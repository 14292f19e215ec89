use Rattle.std.proofs.Common.{◌≡◌, ℕ, ◌+◌, ◌<◌, length, get_or}
use Rattle.scr_table.specs.Filled.{IsNextEntry}
use Rattle.scr_table.proofs.levels.next_block.Given as goal

abbrev pub invariant-loop-position : goal.invariant-loop-position
invariant-loop-position g l =
    (length l.next ≡ 1024) × ((k : ℕ) → l.start + k < l.position
    → IsNextEntry (g.C.Coord.coordinate l.coord) l.level l.entries (l.start + k) (get_or l.next k 0))
