use Rattle.std.proofs.Common.{◌≡◌, ◌+◌, ◌*◌, ◌/◌, ◌%◌, false, sym, ap, ◌∙◌, subst, arith}
use Rattle.scr_positions.specs.Coordinates.{IsGoal, IsNextGoal}
use Rattle.scr_positions.specs.Products.{product_coordinate}
use Rattle.scr_positions.proofs.ProductGoals.{row-none-high, row-goal}
use Rattle.scr_positions.proofs.product.Product.goal_in_row.Goals as goal

pub returns-then-not-is_goal-clause-none : goal.returns-then-not-is_goal-clause-none
returns-then-not-is_goal-clause-none g c =
    let low = g.L.Coord.coordinate c.args.self.now.low in
    let high = g.H.Coord.coordinate c.args.self.now.high in
    let none : c.is_goal.result ≡ false = grind (arith, c.if-not-is_goal.true) in
    row-none-high low high c.args.from c.requires
    (ap (λ n. high.is_goal (c.args.from / n)) (sym c.count-low_count.ensures.count) ∙ sym c.is_goal.ensures ∙ none)

pub returns-clause-goal : goal.returns-clause-goal
returns-clause-goal g c =
    let low = g.L.Coord.coordinate c.args.self.now.low in
    let high = g.H.Coord.coordinate c.args.self.now.high in
    let a = c.in_ok-low.low in
    let is : IsGoal high (c.args.from / c.count-low_count.result) = sym c.is_goal.ensures ∙ grind (arith, c.if-not-is_goal.false) in
    subst (λ n. IsNextGoal (product_coordinate low high) c.args.from (a + n * (c.args.from / n))) (sym c.count-low_count.ensures.count)
    (row-goal low high c.args.from c.requires a (subst (λ n. IsGoal high (c.args.from / n)) c.count-low_count.ensures.count is)
    (subst (λ n. IsNextGoal low (c.args.from % n) a) c.count-low_count.ensures.count c.in_ok-low.ensures.goal))
