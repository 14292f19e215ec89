use Rattle.std.proofs.Common.{ap, ℕ, ◌+◌, ◌*◌, ◌/◌, ◌<◌, ◌≤◌, inl, inr, length, sym, ◌∙◌, subst, arith}
use Rattle.std.proofs.lemmas.Bool.{cases_eq}
use Rattle.scr_positions.proofs.ProductLaws.{row_below, row_reached}
use Rattle.scr_positions.proofs.StaysBelowLaws.{part_below}
use Rattle.scr_positions.proofs.product.ProductCoord.look.Goals as goal

pub loop-high-preserved : goal.loop-high-preserved
loop-high-preserved g c =
    λ k lt row.
    let inside : k < length c.args.into.now = omega (arith, lt) in
    elim (cases_eq ((c.args.start + k) / (g.L.Coord.coordinate c.args.self.now.low).count) c.loop-high.high) [
      | inl here ↦ c.look_along_row.ensures.entered k (omega arith) here
      | inr other ↦ c.look_along_row.ensures.kept k (omega arith) other ∙ c.loop-high.invariant k (omega arith) (omega arith)
    ]

pub returns : goal.returns
returns g c =
    λ k lt.
    let n = c.count-low_count.result in
    let end = c.args.start + length c.args.into.now in
    let low = g.L.Coord.coordinate c.args.self.now.low in
    let at : c.args.start + k < low.count * (g.H.Coord.coordinate c.args.self.now.high).count = omega (arith, lt) in
    let some : 0 < n = omega (arith, (part_below low.count (g.H.Coord.coordinate c.args.self.now.high).count (c.args.start + k) at).0) in
    let row : (c.args.start + k) / n < c.div_ceil-high-end.result =
    subst (λ m. (c.args.start + k) / n < m) (sym c.div_ceil-high-end.ensures) (row_below n (c.args.start + k) end some (omega (arith, lt))) in
    let P : ℕ → Type 0 = λ m. (c.args.start + k) / m < c.div_ceil-high-end.result in
    let inside : (c.args.start + k) / low.count < c.div_ceil-high-end.result =
    subst P c.count-low_count.ensures.count row in
    c.loop-high.invariant k lt (omega arith)

pub look_along_row-requires-clause-reached : goal.look_along_row-requires-clause-reached
look_along_row-requires-clause-reached g c =
    let size = length c.args.into.now in
    let some : 0 < size = grind (arith, c.is_empty.ensures, c.if-is_empty.false) in
    let count = (g.H.Coord.coordinate c.args.self.now.high).count in
    let fits : c.args.start + size ≤ c.count-low_count.result * count =
    omega (arith, ap (λ n. n * count) c.count-low_count.ensures.count) in
    let row = row_reached c.count-low_count.result count c.loop-high.high c.args.start size some fits (omega arith)
    (omega (arith, c.div_ceil-high-end.ensures)) in
    let at = subst (λ n. (c.args.start < (c.loop-high.high + 1) * n) × (c.loop-high.high * n < c.args.start + size)) c.count-low_count.ensures.count row in
    (at.0, omega (arith, at.1))
