use Rattle.scr_notation.proofs.letters.AxesLetters.are_numbered.Goals as goal
use Rattle.scr_notation.proofs.AxisLaws.{axes_numbered}

pub returns : goal.returns
returns c = axes_numbered
