use Rattle.std.proofs.Common.{◌≡◌, ℕ, ◌+◌, ◌%◌, ◌<◌, length, get_or}
use Rattle.scr_clock.specs.Dials.{gain_at, dial_turn}
use Rattle.scr_clock.proofs.clock.Clock.pins.Given as goal

abbrev pub invariant-loop-dial : goal.invariant-loop-dial
invariant-loop-dial l = record {
  fourteen : length l.dials ≡ 14;
  turned : (k : ℕ) → k < l.dial
      → get_or l.dials k 0 ≡ (get_or l.self-inside.dials k 0 + gain_at (dial_turn l.back l.pins l.amount) k) % 12;
}
