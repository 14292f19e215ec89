use Rattle.std.proofs.Common.{◌≡◌, ℕ, sym, ap, ◌∙◌, arith}
use Rattle.scr_net.specs.Nets.{Letters, quarter_net, turned_net}
use Rattle.scr_net.proofs.net.Net.turn.Goals as goal

one : (side face depth amount : ℕ) (net next : Letters) → amount ≡ 1 → next ≡ quarter_net side face depth net
    → next ≡ turned_net side face depth amount net
unfolding turned_net
one side face depth amount net next same e = e ∙ ap (λ n. turned_net side face depth n net) (sym same)

two : (side face depth amount : ℕ) (net once next : Letters) → amount ≡ 2 → once ≡ quarter_net side face depth net
    → next ≡ quarter_net side face depth once → next ≡ turned_net side face depth amount net
unfolding turned_net
two side face depth amount net once next same e f =
    f ∙ ap (quarter_net side face depth) e ∙ ap (λ n. turned_net side face depth n net) (sym same)

pub returns-then-amount-eq1 : goal.returns-then-amount-eq1
returns-then-amount-eq1 g c =
    one g.row.SIDE c.args.face c.args.depth c.args.amount c.args.self.now c.quarter-once.result c.if-amount-eq1.true
    (c.quarter-once.ensures ∙ ap (λ d. quarter_net g.row.SIDE c.args.face d c.args.self.now) c.from-depth.ensures)

pub returns-else-amount-eq1 : goal.returns-else-amount-eq1
returns-else-amount-eq1 g c =
    two g.row.SIDE c.args.face c.args.depth c.args.amount c.args.self.now c.quarter-once.result c.quarter.result (omega arith)
    (c.quarter-once.ensures ∙ ap (λ d. quarter_net g.row.SIDE c.args.face d c.args.self.now) c.from-depth.ensures)
    (c.quarter.ensures ∙ ap (λ d. quarter_net g.row.SIDE c.args.face d c.quarter-once.result) c.from-depth.ensures)
