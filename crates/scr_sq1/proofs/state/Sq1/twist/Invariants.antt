use Rattle.std.proofs.Common.{◌≡◌, ℕ, ◌<◌, length, slice_index}
use Rattle.scr_sq1.specs.Units.{twist_places}
use Rattle.scr_sq1.proofs.state.Sq1.twist.Given as goal

abbrev pub invariant-loop-unit : goal.invariant-loop-unit
invariant-loop-unit l = record {
  size : length l.units ≡ 24;
  filled : (k : ℕ) → k < l.unit → slice_index l.units k ≡ slice_index l.self.units (slice_index twist_places k);
}
