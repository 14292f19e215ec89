use Rattle.std.proofs.Common.{◌≡◌, take}
use Rattle.scr_notation.proofs.numbered_word.NumberedWord.of_scramble.Given as goal

abbrev pub invariant-loop-turn : goal.invariant-loop-turn
invariant-loop-turn l = l.word ≡ record { event = l.fn.scramble.event; turns = take l.turn-index l.turn-items }
