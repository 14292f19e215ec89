use Rattle.scr_coord.proofs.MarkedPieces.{Follows-place_sets}
use Rattle.scr_coord.proofs.ProjectionLaws.{Follows-twists, Follows-pieces}
use Rattle.scr_laws.proofs.coord.projections.Goals as goal

pub returns : goal.returns
returns c = record { twists = Follows-twists; pieces = Follows-pieces; place_sets = Follows-place_sets }
