use Rattle.std.proofs.Common.{arith}
use Rattle.scr_picture.proofs.ShownSkewb.{skewb_played}
use Rattle.scr_picture.proofs.OneSkewb.{one_skewb_shown}
use Rattle.scr_picture.proofs.laws.skewb.Goals as goal

pub returns-clause-one : goal.returns-clause-one
returns-clause-one c w v s r e f same =
    one_skewb_shown w v s r e f (grind (arith, skewb_played w s e, skewb_played v r f))
