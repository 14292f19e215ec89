use Rattle.std.proofs.Common.{◌+◌, ◌*◌, ◌∙◌, ap, sym, arith}
use Rattle.scr_positions.specs.Coordinates.{value_at}
use Rattle.scr_positions.specs.Products.{side_by_side}
use Rattle.scr_positions.proofs.RowsSeen.{seen_in_row}
use Rattle.scr_positions.proofs.product.Product.look_in_row.Goals as goal

pub returns-in-Some : goal.returns-in-Some
returns-in-Some g c =
    λ k lt.
    let low = g.L.Coord.coordinate c.args.self.now.low in
    let target = low.after (c.args.start + k) c.args.turn in
    c.look.ensures k (omega arith)
    ∙ seen_in_row low c.in-Some.high (c.args.start + k) c.args.turn _ _ c.args.values.now c.count-low_count.ensures.stays_below (omega arith) c.requires.turn
    (ap (λ n. c.in-Some.high * n) c.count-low_count.ensures.count) (omega (arith, c.count-low_count.ensures.count))
    ∙ ap (λ o. value_at c.args.values.now (side_by_side low.count target o)) (sym c.in-Some.is)
