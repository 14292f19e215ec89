use Rattle.std.proofs.Common.{map, rules, lit<, lit≤, sym, ap, ◌∙◌, subst}
use Rattle.scr_orbit.specs.PlaceTurns.{made_by}
use Rattle.scr_positions.specs.Coordinates.{StaysBelow}
use Rattle.scr_positions.specs.Products.{product_coordinate}
use Rattle.scr_positions.proofs.SearchLaws.{IfOk-shows}
use Rattle.scr_coord.specs.Projections.{projection, place_set_view}
use Rattle.scr_stages.specs.Numbers.{first_edges}
use Rattle.scr_stages.specs.Tetrads.{tetrads_view}
use Rattle.scr_stages.proofs.StageWords.{StaysBelow-corners, outer_moves}
use Rattle.scr_stages.proofs.TurnFacts.{tetrads_numbers}
use Rattle.scr_stages.proofs.lines.TetradsLineLine.moves.Goals as goal

pub block_edges_turned-edges-requires : goal.block_edges_turned-edges-requires
block_edges_turned-edges-requires c =
    (lit< tt, (lit< tt, (lit< tt, (lit< tt, (lit≤ tt, (lit≤ tt, (lit≤ tt, (search rules, (tetrads_numbers, outer_moves)))))))))

pub new-indexes-requires-clause-stays : goal.new-indexes-requires-clause-stays
new-indexes-requires-clause-stays c =
    subst (λ moves. StaysBelow (projection tetrads_view moves)) (sym c.corners_turned-corners.ensures.turns) StaysBelow-corners

pub returns : goal.returns
returns c =
    let places = projection (place_set_view 8 4 first_edges) in
    let low = c.new-first.ensures ∙ ap places c.block_edges_turned-edges.ensures.turns in
    let turns = ap (map made_by) c.new-indexes.ensures ∙ c.corners_turned-corners.ensures.turns in
    IfOk-shows c.of_moves.result _ _ _ (λ i. product_coordinate (low i) (projection tetrads_view (turns i))) c.of_moves.ensures
