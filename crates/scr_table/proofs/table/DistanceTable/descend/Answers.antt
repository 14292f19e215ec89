use Rattle.std.proofs.Common.{arith}
use Rattle.scr_table.proofs.DescentLaws.{IsDescending-more, IsFirstWord-descended}
use Rattle.scr_table.proofs.table.DistanceTable.descend.Goals as goal

pub loop-lower-preserved : goal.loop-lower-preserved
loop-lower-preserved g c =
    let step = c.first_lowering-descent.ensures in
    rw c.push.ensures.items
    (IsDescending-more _ _ c.requires.measures _ _ _ _ c.loop-lower.invariant _ _ _
    (omega arith) (omega (arith, step.below, c.requires.measures.positions)) step.lower step.first)

pub returns : goal.returns
returns g c =
    IsFirstWord-descended _ _ c.requires.measures _ _ _ _ c.loop-lower.invariant (omega arith)
