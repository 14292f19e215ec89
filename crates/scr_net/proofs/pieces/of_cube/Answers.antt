use Rattle.std.proofs.Common.{arith, rules}
use Rattle.scr_net.specs.Pieces.{cube_letter}
use Rattle.scr_net.proofs.NetLaws.{net-same}
use Rattle.scr_net.proofs.pieces.of_cube.Goals as goal

pub returns : goal.returns
returns c =
    net-same 3 (cube_letter c.args.cube.now) c.of_rule.result c.of_rule.ensures.shape (λ face row column lf lr lc.
    let h = c.of_rule.ensures.each face row column lf lr lc in first_of (search rules, grind arith))
