use Rattle.std.proofs.Common.{◌≡◌, ◌≤◌, map, take}
use Rattle.scr_notation.specs.TurnNumbers.{layer_turn_at}
use Rattle.scr_sq1solve.specs.Counts.{twists_in}
use Rattle.scr_sq1solve.proofs.short.twist_count.Given as goal

abbrev pub invariant-loop-number : goal.invariant-loop-number
invariant-loop-number l = record {
  counted : l.count ≡ twists_in (map layer_turn_at (take l.number-index l.number-items));
  few : l.count ≤ l.number-index;
}
