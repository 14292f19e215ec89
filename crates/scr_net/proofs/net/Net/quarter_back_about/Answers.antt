use Rattle.std.proofs.Common.{◌-◌, sym, ◌∙◌, arith, rules}
use Rattle.scr_net.specs.Geometry.{carried_sticker}
use Rattle.scr_net.specs.Nets.{letter_at}
use Rattle.scr_net.proofs.NetLaws.{net-same}
use Rattle.scr_net.proofs.TurnLaws.{turned_net-three}
use Rattle.scr_net.proofs.net.Net.quarter_back_about.Goals as goal

pub returns : goal.returns
returns g c =
    net-same g.row.SIDE (λ s. letter_at g.row.SIDE c.args.self.now (carried_sticker (g.row.SIDE - 1) c.args.face c.args.depth s)) c.of_rule.result c.of_rule.ensures.shape
    (λ face row column lf lr lc. let h = c.of_rule.ensures.each face row column lf lr lc in first_of (search rules, grind arith))
    ∙ sym (turned_net-three g.row.SIDE (omega (arith, c.requires.side.large)) c.args.face c.args.depth c.args.self.now c.requires.face)
