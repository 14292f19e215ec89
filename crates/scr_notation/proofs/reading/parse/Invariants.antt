use Rattle.std.proofs.Common.{length}
use Rattle.scr_notation.specs.Reading.{spaced_words, IsReadSoFar}
use Rattle.scr_notation.proofs.reading.parse.Given as goal

abbrev pub invariant-loop-word : goal.invariant-loop-word
invariant-loop-word l = IsReadSoFar l.fn.event (spaced_words l.text) (length l.yielded) l.scramble l.place
