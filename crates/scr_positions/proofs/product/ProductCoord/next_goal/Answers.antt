use Rattle.std.proofs.Common.{◌+◌, ◌*◌, ◌/◌, ◌%◌, ◌<◌, sym, subst, arith}
use Rattle.std.specs.Prelude.{IfNone}
use Rattle.std.proofs.Math.Nat.{div-add-mod}
use Rattle.scr_positions.specs.Coordinates.{HasNoGoal, IsNextGoal}
use Rattle.scr_positions.specs.Products.{product_coordinate}
use Rattle.scr_positions.proofs.ProductGoals.{HasNoGoal-joined, IsNextGoal-joined, rows-none-high, rows-none-low, rows-goal}
use Rattle.scr_positions.proofs.StaysBelowLaws.{part_below}
use Rattle.scr_positions.proofs.product.ProductCoord.next_goal.Goals as goal

pub returns-in_err-high-in-None-clause-none : goal.returns-in_err-high-in-None-clause-none
returns-in_err-high-in-None-clause-none g c =
    let low = g.L.Coord.coordinate c.args.self.now.low in
    let high = g.H.Coord.coordinate c.args.self.now.high in
    let both = product_coordinate low high in
    let from = c.args.from in
    let none = subst (λ n. HasNoGoal high (from / n + 1) high.count) c.count-low_count.ensures.count c.in_err-high-in-None.ensures.none in
    subst (λ o. IfNone o (HasNoGoal both from (low.count * high.count))) (sym c.from_residual.ensures)
    (HasNoGoal-joined both from (low.count * (from / low.count + 1)) _ c.in-None.ensures.none (rows-none-high low high _ none))

pub returns-in_err-low-in-None-clause-none : goal.returns-in_err-low-in-None-clause-none
returns-in_err-low-in-None-clause-none g c =
    let low = g.L.Coord.coordinate c.args.self.now.low in
    let high = g.H.Coord.coordinate c.args.self.now.high in
    let both = product_coordinate low high in
    subst (λ o. IfNone o (HasNoGoal both c.args.from (low.count * high.count))) (sym c.from_residual-in_err-low-in-None.ensures)
    (rows-none-low low high c.args.from c.in_err-low-in-None.ensures.none)

pub returns-in_ok-low-in-None-clause-goal : goal.returns-in_ok-low-in-None-clause-goal
returns-in_ok-low-in-None-clause-goal g c =
    let low = g.L.Coord.coordinate c.args.self.now.low in
    let high = g.H.Coord.coordinate c.args.self.now.high in
    let both = product_coordinate low high in
    let from = c.args.from in
    let row = from / low.count + 1 in
    let inside : from % low.count < low.count = (part_below low.count high.count from (omega arith)).0 in
    let a = c.in_ok-low-in-None.low in
    let b = c.in_ok-high-in-None.high in
    let next = subst (λ n. IsNextGoal high (from / n + 1) b) c.count-low_count.ensures.count c.in_ok-high-in-None.ensures.goal in
    subst (λ n. IsNextGoal both from (a + n * b)) (sym c.count-low_count.ensures.count)
    (IsNextGoal-joined both from (low.count * row) (a + low.count * b) (omega (arith, div-add-mod from low.count)) c.in-None.ensures.none
    (rows-goal low high row a b next c.in_ok-low-in-None.ensures.goal))
