use Rattle.std.proofs.Common.{◌-◌, arith, rules}
use Rattle.scr_net.specs.Geometry.{brought_from}
use Rattle.scr_net.specs.Nets.{letter_at, quarter_net}
use Rattle.scr_net.proofs.NetLaws.{net-same}
use Rattle.scr_net.proofs.net.Net.quarter_about.Goals as goal

pub returns : goal.returns
unfolding quarter_net
returns g c =
    net-same g.row.SIDE (λ s. letter_at g.row.SIDE c.args.self.now (brought_from (g.row.SIDE - 1) c.args.face c.args.depth s)) c.of_rule.result c.of_rule.ensures.shape
    (λ face row column lf lr lc. let h = c.of_rule.ensures.each face row column lf lr lc in first_of (search rules, grind arith))
