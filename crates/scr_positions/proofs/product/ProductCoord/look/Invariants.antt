use Rattle.std.proofs.Common.{◌≡◌, ℕ, ◌+◌, ◌/◌, ◌<◌, length, get_or}
use Rattle.scr_positions.specs.Coordinates.{value_at}
use Rattle.scr_positions.specs.Products.{product_coordinate}
use Rattle.scr_positions.proofs.product.ProductCoord.look.Given as goal

abbrev pub invariant-loop-high : goal.invariant-loop-high
invariant-loop-high g l =
    let low = g.L.Coord.coordinate l.self.low in
    let c = product_coordinate low (g.H.Coord.coordinate l.self.high) in
    (k : ℕ) → k < length l.into → (l.start + k) / low.count < l.high → get_or l.into k 0 ≡ value_at l.values (c.after (l.start + k) l.turn)
