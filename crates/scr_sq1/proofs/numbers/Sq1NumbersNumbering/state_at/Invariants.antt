use Rattle.std.proofs.Common.{◌+◌, ◌++◌, drop}
use Rattle.scr_sq1.specs.Shapes.{half_word}
use Rattle.scr_sq1.specs.Numbers.{shape_word}
use Rattle.scr_sq1.proofs.PieceSteps.{Laying}
use Rattle.scr_sq1.proofs.numbers.Sq1NumbersNumbering.state_at.Given as goal

abbrev pub invariant-loop-place : goal.invariant-loop-place
invariant-loop-place l =
    Laying l.unit l.corner l.edge l.units (shape_word (drop l.place l.halves)) (shape_word l.halves) l.corners l.edges

abbrev pub invariant-loop-piece : goal.invariant-loop-piece
invariant-loop-piece l =
    Laying l.unit l.corner l.edge l.units (drop l.piece (half_word l.half) ++ shape_word (drop (l.place + 1) l.halves))
    (shape_word l.halves) l.corners l.edges
