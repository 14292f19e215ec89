use Rattle.scr_combinatorics.proofs.OneLetter.{NoneBefore}
use Rattle.scr_sq1.specs.Units.{sq1_after}
use Rattle.scr_sq1tables.specs.Letters.{stage_of}
use Rattle.scr_sq1solve.proofs.walks.end_walk.Given as goal

abbrev pub invariant-loop-number : goal.invariant-loop-number
invariant-loop-number l = NoneBefore sq1_after (stage_of l.letters) l.state l.number
