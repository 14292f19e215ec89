use Rattle.std.proofs.Common.{◌≡◌, get_or, None, ap, sym, ◌∙◌, arith}
use Rattle.scr_combinatorics.proofs.StepLaws.{play-barred, play-whole}
use Rattle.scr_sq1.proofs.NumberedTurns.{numbered_after, play-word}
use Rattle.scr_sq1.proofs.state.Sq1.after_word.Goals as goal

pub returns-in_err-state : goal.returns-in_err-state
returns-in_err-state c =
    let numbers = c.numbers-number-items.result.now in
    let barred : numbered_after c.loop-number.state (get_or numbers c.loop-number.number-index 0) ≡ None =
    ap (numbered_after c.loop-number.state) (sym c.from.ensures) ∙ sym c.turn_at.ensures.after ∙ c.in_err-state.was in
    c.from_residual.ensures ∙ sym (play-barred numbered_after c.args.self.now c.loop-number.state numbers c.loop-number.number-index c.loop-number.invariant 0 c.loop-number-test.true barred)
    ∙ play-word c.args.self.now c.args.word.now numbers c.requires c.numbers-number-items.ensures.value

pub returns : goal.returns
returns c =
    let numbers = c.numbers-number-items.result.now in
    sym (play-whole numbered_after c.args.self.now c.loop-number.state numbers c.loop-number.number-index c.loop-number.invariant
    (omega (arith, c.loop-number-test.false)))
    ∙ play-word c.args.self.now c.args.word.now numbers c.requires c.numbers-number-items.ensures.value
