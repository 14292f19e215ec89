use Rattle.std.proofs.Common.{arith}
use Rattle.scr_picture.proofs.ShownPyram.{pyram_played}
use Rattle.scr_picture.proofs.OnePyram.{one_pyram_shown}
use Rattle.scr_picture.proofs.laws.pyraminx.Goals as goal

pub returns-clause-one : goal.returns-clause-one
returns-clause-one c w v s r e f same =
    one_pyram_shown w v s r e f (grind (arith, pyram_played w s e, pyram_played v r f))
