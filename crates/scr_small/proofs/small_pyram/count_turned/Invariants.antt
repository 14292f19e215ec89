use Rattle.std.proofs.Common.{◌≡◌, ◌≤◌, ◌+◌, drop}
use Rattle.scr_tetra.specs.PyramParts.{turned_count}
use Rattle.scr_small.proofs.small_pyram.count_turned.Given as goal

abbrev pub invariant-loop-digit : goal.invariant-loop-digit
invariant-loop-digit l = (l.turned + turned_count (drop l.digit-index l.digits) ≡ turned_count l.digits) × (l.turned ≤ l.digit-index)
