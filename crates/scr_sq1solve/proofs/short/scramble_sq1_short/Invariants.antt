use Rattle.std.proofs.Common.{take}
use Rattle.scr_sq1solve.proofs.ShortestLaws.{IsLeast}
use Rattle.scr_sq1solve.proofs.short.scramble_sq1_short.Given as goal

abbrev pub invariant-loop-place : goal.invariant-loop-place
invariant-loop-place l = IsLeast l.state (take l.place l.words) l.least
