use Rattle.std.proofs.Common.{◌≡◌, Some, take}
use Rattle.scr_combinatorics.specs.Play.{play}
use Rattle.scr_sq1.proofs.NumberedTurns.{numbered_after}
use Rattle.scr_sq1.proofs.state.Sq1.after_word.Given as goal

abbrev pub invariant-loop-number : goal.invariant-loop-number
invariant-loop-number l = play numbered_after l.self (take l.number-index l.number-items) ≡ Some l.state
