use Rattle.std.proofs.Common.{◌≡◌, map, take}
use Rattle.scr_notation.specs.Event.{kind_of}
use Rattle.scr_notation.specs.TurnNumbers.{turn_at}
use Rattle.scr_notation.proofs.numbered_word.NumberedWord.scramble.Given as goal

abbrev pub invariant-loop-number : goal.invariant-loop-number
invariant-loop-number l =
    l.scramble ≡ record { event = l.fn.self.event; turns = map (turn_at (kind_of l.fn.self.event)) (take l.number-index l.number-items) }
