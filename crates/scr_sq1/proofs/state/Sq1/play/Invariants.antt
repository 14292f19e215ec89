use Rattle.std.proofs.Common.{◌≡◌, Some, take}
use Rattle.scr_combinatorics.specs.Play.{play}
use Rattle.scr_sq1.specs.Units.{sq1_after}
use Rattle.scr_sq1.proofs.state.Sq1.play.Given as goal

abbrev pub invariant-loop-turn : goal.invariant-loop-turn
invariant-loop-turn l = play sq1_after l.self (take l.turn-index l.turn-items) ≡ Some l.state
