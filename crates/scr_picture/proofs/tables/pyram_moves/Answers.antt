use Rattle.scr_picture.proofs.PlacesBelow.{pyram_below}
use Rattle.scr_picture.proofs.tables.pyram_moves.Goals as goal

pub returns-clause-below : goal.returns-clause-below
returns-clause-below c = pyram_below
