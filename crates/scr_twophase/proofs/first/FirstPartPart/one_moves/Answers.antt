use Rattle.std.proofs.Common.{ap, ◌∙◌}
use Rattle.scr_positions.proofs.SearchLaws.{IfOk-shows}
use Rattle.scr_coord.specs.Projections.{projection, twists_view}
use Rattle.scr_twophase.proofs.first.FirstPartPart.one_moves.Goals as goal

pub returns : goal.returns
returns c =
    IfOk-shows c.build.result _ _ _ (c.new.ensures ∙ ap (projection (twists_view 12 2)) c.edges_turned.ensures.turns)
    c.build.ensures
