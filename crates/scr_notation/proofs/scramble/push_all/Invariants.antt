use Rattle.std.proofs.Common.{◌≡◌, ◌++◌, take}
use Rattle.scr_notation.proofs.scramble.push_all.Given as goal

abbrev pub invariant-loop-turn : goal.invariant-loop-turn
invariant-loop-turn l =
    l.scramble ≡ record { event = l.fn.scramble.event; turns = l.fn.scramble.turns ++ take l.turn-index l.turn-items }
