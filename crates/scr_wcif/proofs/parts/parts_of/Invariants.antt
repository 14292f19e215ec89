use Rattle.std.proofs.Common.{length}
use Rattle.scr_wcif.proofs.PartLemmas.{HasPassed}
use Rattle.scr_wcif.proofs.parts.parts_of.Given as goal

abbrev pub invariant-lines : goal.invariant-lines
invariant-lines l = HasPassed l.fn.input l.rest

abbrev pub decreases-lines : goal.decreases-lines
decreases-lines l = length l.rest
