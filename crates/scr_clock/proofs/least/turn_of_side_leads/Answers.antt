use Rattle.std.proofs.Common.{◌≡◌, sym, ◌∙◌, arith}
use Rattle.std.proofs.lemmas.Bool.{iff_false}
use Rattle.scr_clock.specs.Dials.{solved}
use Rattle.scr_clock.proofs.SideLaws.{IsOtherSolved-led, by_amount, amount_of_last, found, untrue}
use Rattle.scr_clock.proofs.least.turn_of_side_leads.Goals as goal

pub returns-then-not-is_other_solved-clause-exact : goal.returns-then-not-is_other_solved-clause-exact
returns-then-not-is_other_solved-clause-exact c =
    let other = c.is_other_solved.ensures in
    untrue (λ s. iff_false other.exact c.if-not-is_other_solved.true (IsOtherSolved-led 1 c.args.back c.args.clock.now other.valid s))

pub returns-clause-exact : goal.returns-clause-exact
returns-clause-exact c =
    let dials = c.args.clock.now in
    let amount = c.amount_of_centre-amount in
    untrue (λ s. c.loop-pins.invariant s.setting.pins s.setting.some_pin (omega (arith, s.setting.four_pins))
    (by_amount c.args.back dials (λ d. d ≡ solved) s.setting amount.result
    (amount_of_last c.args.back dials c.is_other_solved.ensures.valid s ∙ sym amount.ensures.value) s.gives))

pub returns-then-is_solved-clause-exact : goal.returns-then-is_solved-clause-exact
returns-then-is_solved-clause-exact c =
    let amount = c.amount_of_centre-amount in
    found c.args.back c.args.clock.now c.pins.result (λ d. d ≡ solved) c.loop-pins.pins amount.result (omega arith)
    (omega arith) amount.ensures.hours
    c.pins.ensures (c.is_solved.ensures.exact.0 c.if-is_solved.true)
