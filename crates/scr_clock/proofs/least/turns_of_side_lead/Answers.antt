use Rattle.std.proofs.Common.{[], ◌∷◌, arith}
use Rattle.std.proofs.lemmas.Bool.{iff_false}
use Rattle.scr_clock.specs.Sides.{SidesLead}
use Rattle.scr_clock.proofs.SideLaws.{IsOtherSolved-led, found, untrue}
use Rattle.scr_clock.proofs.least.turns_of_side_lead.Goals as goal

pub returns-then-not-is_other_solved-clause-exact : goal.returns-then-not-is_other_solved-clause-exact
returns-then-not-is_other_solved-clause-exact c =
    let other = c.is_other_solved.ensures in
    untrue (λ s. iff_false other.exact c.if-not-is_other_solved.true (IsOtherSolved-led 2 c.args.back c.args.clock.now other.valid s))

pub returns-then-turn_of_side_leads-clause-exact : goal.returns-then-turn_of_side_leads-clause-exact
returns-then-turn_of_side_leads-clause-exact c =
    found c.args.back c.args.clock.now c.pins.result (SidesLead (c.args.back ∷ [])) c.loop-pins.pins c.loop-amount.amount
    (omega arith) (omega arith) (omega arith)
    c.pins.ensures (c.turn_of_side_leads.ensures.exact.0 c.if-turn_of_side_leads.true)
