use Rattle.std.proofs.Common.{◌≡◌, ℕ, ◌+◌, ◌*◌, ◌<◌, ◌≤◌, get_or, take}
use Rattle.scr_combinatorics.specs.Lists.{total}
use Rattle.scr_orbit.proofs.validity.are_completed.Given as goal

abbrev pub invariant-loop-digit : goal.invariant-loop-digit
invariant-loop-digit l = record {
  below : (k : ℕ) → k < l.digit-index → get_or l.digits k 0 < l.base;
  summed : l.sum ≡ total (take l.digit-index l.digits) + l.fn.more;
  fits : l.sum ≤ 255 * l.digit-index + 255;
}
