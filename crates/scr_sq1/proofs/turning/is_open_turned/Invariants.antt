use Rattle.std.proofs.Common.{◌≡◌, ℕ, ◌<◌, false, get_or}
use Rattle.scr_combinatorics.specs.Lists.{pick}
use Rattle.scr_sq1.specs.declared.turning.TheConstants.{BEFORE_CUT, BEHIND_CUT}
use Rattle.scr_sq1.specs.Units.{are_of_one_corner, turn_places}
use Rattle.scr_sq1.proofs.turning.is_open_turned.Given as goal

abbrev pub invariant-loop-cut : goal.invariant-loop-cut
invariant-loop-cut l =
    (i : ℕ) → i < l.cut → are_of_one_corner (pick l.units (turn_places l.top l.bottom)) (get_or BEFORE_CUT i 0) (get_or BEHIND_CUT i 0) ≡ false
