use Rattle.std.proofs.Common.{◌≡◌, ◌≢◌, ℕ, ◌<◌, ◌≤◌, get_or}
use Rattle.std.specs.Bool.{OnTrue, OnFalse}
use Rattle.scr_table.proofs.blocks.contains.Given as goal

abbrev pub invariant-loop-position : goal.invariant-loop-position
invariant-loop-position l =
    OnTrue l.found ((p : ℕ) × (l.start ≤ p) × (p < l.end) × (get_or l.entries p 0 ≡ l.entry))
    × OnFalse l.found ((p : ℕ) → l.start ≤ p → p < l.position → get_or l.entries p 0 ≢ l.entry)
