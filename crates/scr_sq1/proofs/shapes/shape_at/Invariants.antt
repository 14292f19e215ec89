use Rattle.std.proofs.Common.{◌-◌}
use Rattle.scr_sq1.proofs.ShapeSteps.{MadeHalves, FallingHalf}
use Rattle.scr_sq1.proofs.shapes.shape_at.Given as goal

abbrev pub invariant-loop-place : goal.invariant-loop-place
invariant-loop-place l = MadeHalves l.place (4 - l.place) l.corners l.rest l.fn.number l.halves

abbrev pub decreases-loop-half : goal.decreases-loop-half
decreases-loop-half l = 13 - l.half

abbrev pub invariant-loop-half : goal.invariant-loop-half
invariant-loop-half l = FallingHalf l.place (3 - l.place) l.corners l.half l.rest l.fn.number l.halves
