use Rattle.std.proofs.Common.{◌-◌, ◌<◌, ◌≤◌, ℕ, length}
use Rattle.scr_table.specs.Halves.{StandsAt}
use Rattle.scr_table.proofs.entries.deep_entry.Given as goal

-- the position stands nowhere below `low`, nor from `high` on
abbrev pub invariant-loop-low : goal.invariant-loop-low
invariant-loop-low l = record {
  inside : l.high ≤ length l.deep;
  between : (i : ℕ) → StandsAt l.deep i l.position → (l.low ≤ i) × (i < l.high);
}

abbrev pub decreases-loop-low : goal.decreases-loop-low
decreases-loop-low l = l.high - l.low
