use Rattle.scr_sq1.proofs.PieceSteps.{ReadCorners, ReadEdges}
use Rattle.scr_sq1.proofs.state.Sq1.pieces.Given as goal

abbrev pub invariant-loop-unit : goal.invariant-loop-unit
invariant-loop-unit l = record {
  corners : ReadCorners l.unit-index l.corner l.is_second l.corners l.unit-items;
  edges : ReadEdges l.unit-index l.edge l.edges l.unit-items;
}
