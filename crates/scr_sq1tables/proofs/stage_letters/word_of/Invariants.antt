use Rattle.std.proofs.Common.{◌≡◌, ◌*◌, ◌≤◌, length, take}
use Rattle.scr_notation.specs.declared.event.Event.TheVariants.{Sq1}
use Rattle.scr_sq1tables.specs.Letters.{letter_of}
use Rattle.scr_sq1tables.proofs.stage_letters.word_of.Given as goal
use Rattle.scr_combinatorics.specs.Stages.{spelled}

abbrev pub invariant-loop-place : goal.invariant-loop-place
invariant-loop-place l =
    (l.word ≡ record { event = Sq1; turns = spelled (letter_of l.letters) (take l.place l.numbers) }) × (length l.word.turns ≤ 6 * l.place)
