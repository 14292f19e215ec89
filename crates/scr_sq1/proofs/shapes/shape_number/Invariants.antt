use Rattle.std.proofs.Common.{◌-◌, drop}
use Rattle.scr_sq1.proofs.ShapeSteps.{CountedHalves, CountingLower}
use Rattle.scr_sq1.proofs.shapes.shape_number.Given as goal

abbrev pub invariant-loop-place : goal.invariant-loop-place
invariant-loop-place l = CountedHalves (4 - l.place) l.corners l.number (drop l.place l.halves) l.halves

abbrev pub invariant-loop-lower : goal.invariant-loop-lower
invariant-loop-lower l = CountingLower l.place l.corners l.half l.lower l.number l.halves
