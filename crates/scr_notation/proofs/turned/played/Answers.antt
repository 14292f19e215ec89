use Rattle.std.proofs.Common.{sym, ◌∙◌, arith}
use Rattle.scr_combinatorics.proofs.PlayLaws.{play-empty}
use Rattle.scr_combinatorics.proofs.StepLaws.{play-more, play-barred, play-whole}
use Rattle.scr_notation.proofs.turned.played.Goals as goal

pub loop-turn-init : goal.loop-turn-init
loop-turn-init g c = play-empty g.S.PowerTurned.after c.args.start

pub loop-turn-preserved : goal.loop-turn-preserved
loop-turn-preserved g c =
    play-more g.S.PowerTurned.after c.args.start c.loop-turn.state c.args.turns.now c.loop-turn.turn-index c.loop-turn.invariant _ c.loop-turn-test.true
    ∙ sym c.after.ensures ∙ c.in_ok-state.was

pub returns-in_err-state : goal.returns-in_err-state
returns-in_err-state g c =
    c.from_residual.ensures
    ∙ sym (play-barred g.S.PowerTurned.after c.args.start c.loop-turn.state c.args.turns.now c.loop-turn.turn-index c.loop-turn.invariant _ c.loop-turn-test.true
    (sym c.after.ensures ∙ c.in_err-state.was))

pub returns : goal.returns
returns g c =
    sym (play-whole g.S.PowerTurned.after c.args.start c.loop-turn.state c.args.turns.now c.loop-turn.turn-index c.loop-turn.invariant (omega arith))
