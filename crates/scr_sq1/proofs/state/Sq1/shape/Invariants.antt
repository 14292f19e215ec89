use Rattle.std.proofs.Common.{◌≡◌, ◌≤◌, ◌+◌, ◌-◌, ◌*◌, take, drop}
use Rattle.scr_sq1.proofs.HalfWords.{corner_bits}
use Rattle.scr_sq1.proofs.ShapeSteps.{ReadHalves}
use Rattle.scr_sq1.proofs.state.Sq1.shape.Given as goal

abbrev pub invariant-loop-half : goal.invariant-loop-half
invariant-loop-half l = ReadHalves l.half (4 - l.half) l.units l.halves

abbrev pub invariant-loop-unit : goal.invariant-loop-unit
invariant-loop-unit l = record {
  read : l.bits ≡ corner_bits (drop l.unit (take (6 * l.half + 6) l.units));
  from : 6 * l.half ≤ l.unit;
}
