use Rattle.std.proofs.Common.{arith, rules}
use Rattle.scr_net.proofs.NetLaws.{net-same}
use Rattle.scr_net.proofs.net.Net.solved.Goals as goal

pub returns : goal.returns
returns g c =
    net-same g.row.SIDE (λ s. s.face) c.of_rule.result c.of_rule.ensures.shape (λ face row column lf lr lc.
    let h = c.of_rule.ensures.each face row column lf lr lc in first_of (search rules, grind arith))
