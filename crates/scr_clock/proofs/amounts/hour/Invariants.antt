use Rattle.std.proofs.Common.{◌≡◌, ◌*◌, ◌≤◌, take}
use Rattle.std.specs.List.{sum}
use Rattle.std.specs.Simd.Lanes.{products}
use Rattle.scr_clock.proofs.amounts.hour.Given as goal

abbrev pub invariant-loop-dial : goal.invariant-loop-dial
invariant-loop-dial l = record {
  low : l.hours ≤ 65025 * l.dial;
  so_far : l.hours ≡ sum (take l.dial (products l.times l.dials));
}
