use Rattle.scr_picture.proofs.PlacesBelow.{skewb_below}
use Rattle.scr_picture.proofs.tables.skewb_moves.Goals as goal

pub returns-clause-below : goal.returns-clause-below
returns-clause-below c = skewb_below
