use Rattle.std.proofs.Common.{◌≡◌, false, Some, take}
use Rattle.scr_combinatorics.specs.Play.{play}
use Rattle.scr_clock.specs.Held.{held_after}
use Rattle.scr_clock.proofs.HeldLaws.{held_clock}
use Rattle.scr_clock.proofs.clock.Clock.play.Given as goal

abbrev pub invariant-loop-turn : goal.invariant-loop-turn
invariant-loop-turn l =
    play held_after (held_clock l.self false) (take l.turn-index l.turn-items) ≡ Some
    (held_clock l.clock l.back)
