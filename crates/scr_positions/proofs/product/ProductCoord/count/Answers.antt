use Rattle.scr_positions.proofs.StaysBelowLaws.{StaysBelow-product}
use Rattle.scr_positions.proofs.product.ProductCoord.count.Goals as goal

pub returns-clause-stays_below : goal.returns-clause-stays_below
returns-clause-stays_below g c =
    let me = c.args.self.now in
    StaysBelow-product (g.L.Coord.coordinate me.low) (g.H.Coord.coordinate me.high) me.same_turns
    c.count.ensures.stays_below c.count-2.ensures.stays_below
