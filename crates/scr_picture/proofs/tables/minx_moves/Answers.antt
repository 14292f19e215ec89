use Rattle.scr_picture.proofs.PlacesBelow.{minx_below}
use Rattle.scr_picture.proofs.tables.minx_moves.Goals as goal

pub returns-clause-below : goal.returns-clause-below
returns-clause-below c = minx_below
