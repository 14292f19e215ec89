use Rattle.std.proofs.Common.{arith, rules}
use Rattle.scr_net.specs.Pieces.{corners_letter}
use Rattle.scr_net.proofs.NetLaws.{net-same}
use Rattle.scr_net.proofs.pieces.of_corners.Goals as goal

pub returns : goal.returns
returns c =
    net-same 2 (corners_letter c.args.state.now) c.of_rule.result c.of_rule.ensures.shape (λ face row column lf lr lc.
    let h = c.of_rule.ensures.each face row column lf lr lc in first_of (search rules, grind arith))
