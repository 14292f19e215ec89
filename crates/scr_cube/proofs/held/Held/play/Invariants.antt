use Rattle.std.proofs.Common.{◌≡◌, Some, take}
use Rattle.scr_combinatorics.specs.Play.{play}
use Rattle.scr_cube.specs.Held.{held_cube_after}
use Rattle.scr_cube.proofs.held.Held.play.Given as goal

abbrev pub invariant-loop-turn : goal.invariant-loop-turn
invariant-loop-turn l = play held_cube_after l.fn.self (take l.turn-index l.turn-items) ≡ Some l.state
