use Rattle.std.proofs.Common.{sym, ap, ◌∙◌, subst, rules}
use Rattle.std.specs.Prelude.{All, IsTrue}
use Rattle.scr_combinatorics.specs.Play.{play}
use Rattle.scr_combinatorics.proofs.PlayLaws.{play-empty}
use Rattle.scr_combinatorics.proofs.StepLaws.{play-more, play-barred}
use Rattle.scr_notation.specs.Turns.{permits}
use Rattle.scr_net.specs.Nets.{net_after}
use Rattle.scr_net.proofs.net.Net.play.Goals as goal

pub loop-turn-init : goal.loop-turn-init
loop-turn-init g c = play-empty (net_after g.row.SIDE) c.args.self.now

pub loop-turn-preserved : goal.loop-turn-preserved
loop-turn-preserved g c =
    play-more (net_after g.row.SIDE) c.args.self.now c.loop-turn.net c.turns-turn-items.result.now c.loop-turn.turn-index c.loop-turn.invariant _ c.loop-turn-test.true
    ∙ sym c.after.ensures ∙ c.in_ok-net.was

pub returns-in_err-net : goal.returns-in_err-net
returns-in_err-net g c =
    c.from_residual.ensures
    ∙ sym (play-barred (net_after g.row.SIDE) c.args.self.now c.loop-turn.net c.turns-turn-items.result.now c.loop-turn.turn-index c.loop-turn.invariant _ c.loop-turn-test.true
    (sym c.after.ensures ∙ c.in_err-net.was))
    ∙ ap (play (net_after g.row.SIDE) c.args.self.now) c.turns-turn-items.ensures.value

pub after-requires : goal.after-requires
after-requires g c =
    let event = c.args.scramble.now.event in
    let same = sym c.turns-turn-items.ensures.value in
    let permitted = subst (All (λ t. IsTrue (permits event t))) same c.turns-turn-items.ensures.valid.permitted in
    (search rules, (c.requires, (event, permitted c.loop-turn.turn-index _ c.loop-turn-test.true)))
