use Rattle.scr_notation.proofs.letters.FacesLetters.are_numbered.Goals as goal
use Rattle.scr_notation.proofs.FaceLaws.{faces_numbered}

pub returns : goal.returns
returns c = faces_numbered
