use Rattle.std.proofs.Common.{ap, ◌∙◌}
use Rattle.scr_positions.specs.Products.{product_coordinate}
use Rattle.scr_positions.proofs.SearchLaws.{IfOk-shows}
use Rattle.scr_coord.specs.Projections.{projection, twists_view, place_set_view}
use Rattle.scr_stages.specs.Stages.{middle_edges}
use Rattle.scr_stages.proofs.lines.SliceLineLine.moves.Goals as goal

pub returns : goal.returns
returns c =
    let twists = projection (twists_view 8 3) in
    let places = projection (place_set_view 12 4 middle_edges) in
    let low = c.new-twists.ensures ∙ ap twists c.corners_turned-corners.ensures.turns in
    let high = c.new-middle.ensures ∙ ap places c.edges_turned-edges.ensures.turns in
    IfOk-shows c.of_moves.result _ _ _ (λ i. product_coordinate (low i) (high i)) c.of_moves.ensures
