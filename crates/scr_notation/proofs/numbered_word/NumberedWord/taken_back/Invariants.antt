use Rattle.std.proofs.Common.{◌≡◌, drop, map}
use Rattle.scr_combinatorics.specs.Back.{back}
use Rattle.scr_notation.specs.Event.{kind_of}
use Rattle.scr_notation.specs.TurnNumbers.{turn_at}
use Rattle.scr_notation.specs.Turning.{opposite}
use Rattle.scr_notation.proofs.numbered_word.NumberedWord.taken_back.Given as goal

abbrev pub invariant-loop-place : goal.invariant-loop-place
invariant-loop-place l =
    let event = l.self-inside.event in
    l.scramble ≡ record { event = event; turns = back opposite (map (turn_at (kind_of event)) (drop l.place l.self-inside.numbers.items)) }
