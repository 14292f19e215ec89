use Rattle.std.proofs.Common.{sym, ◌∙◌, arith}
use Rattle.scr_table.proofs.DescentLaws.{LowersFirst-measured, some_turn-lowers}
use Rattle.scr_table.proofs.StepLaws.{moved-after}
use Rattle.scr_table.proofs.table.DistanceTable.first_lowering.Goals as goal

pub returns-then-distance-lower-clause-first : goal.returns-then-distance-lower-clause-first
returns-then-distance-lower-clause-first g c =
    let show = g.C.Coord.coordinate c.args.coord.now in
    LowersFirst-measured show _ c.requires.measures _ _ (omega (arith, c.requires.measures.positions)) _ _
    c.loop-turn.invariant (moved-after show c.args.position c.loop-turn.turn (omega arith) ∙ sym c.in-Some.ensures.leads) (sym c.distance.ensures.value ∙ c.if-distance-lower.true)

pub unreachable-requires : goal.unreachable-requires
unreachable-requires g c =
    some_turn-lowers _ _ c.requires.measures _ _ (omega (arith, c.requires.measures.positions))
    c.requires.lower (λ t q lt. c.loop-turn.invariant t q (omega arith))
