use Rattle.std.proofs.Common.{◌≡◌, Some, take}
use Rattle.scr_combinatorics.specs.Play.{play}
use Rattle.scr_notation.proofs.turned.played.Given as goal

abbrev pub invariant-loop-turn : goal.invariant-loop-turn
invariant-loop-turn g l = play g.S.PowerTurned.after l.fn.start (take l.turn-index l.turns) ≡ Some l.state
