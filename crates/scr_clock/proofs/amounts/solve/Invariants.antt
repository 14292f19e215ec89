use Rattle.std.proofs.Common.{◌≡◌, ℕ, ◌%◌, ◌<◌, [], length, get_or}
use Rattle.std.specs.List.{sum}
use Rattle.std.specs.Simd.Lanes.{products}
use Rattle.scr_clock.specs.declared.amounts.TheConstants.{AMOUNTS}
use Rattle.scr_clock.proofs.amounts.solve.Given as goal

abbrev pub invariant-loop-turn : goal.invariant-loop-turn
invariant-loop-turn l = record {
  fourteen : length l.amounts ≡ 14;
  by_rows : (k : ℕ) → k < l.turn → get_or l.amounts k 0 ≡ sum (products (get_or AMOUNTS k []) l.dials) % 12;
}
