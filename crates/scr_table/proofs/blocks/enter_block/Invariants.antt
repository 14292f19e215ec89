use Rattle.std.proofs.Common.{◌≡◌, ℕ, ◌-◌, ◌<◌, ◌≤◌, ◌⊎◌, get_or}
use Rattle.scr_table.proofs.blocks.enter_block.Given as goal

abbrev pub invariant-loop-position : goal.invariant-loop-position
invariant-loop-position l =
    ((p : ℕ) → l.start ≤ p → p < l.position → get_or l.entries p 0 ≡ get_or l.next (p - l.start) 0)
    × ((p : ℕ) → (p < l.start) ⊎ (l.position ≤ p) → get_or l.entries p 0 ≡ get_or l.initial.entries p 0)
