use Rattle.std.proofs.Common.{ap, ◌∙◌}
use Rattle.scr_positions.proofs.SearchLaws.{IfOk-shows}
use Rattle.scr_coord.specs.Projections.{projection, pieces_view}
use Rattle.scr_twophase.proofs.second.edge_moves.Goals as goal

pub returns : goal.returns
returns g c =
    IfOk-shows c.build.result _ _ _ (c.new.ensures ∙ ap (projection (pieces_view g.row.N)) c.block_edges_turned.ensures.turns)
    c.build.ensures
