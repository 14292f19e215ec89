use Rattle.std.proofs.Common.{true, false, [], ◌∷◌, sym, ◌∙◌, arith}
use Rattle.std.proofs.lemmas.Bool.{iff_false}
use Rattle.scr_clock.specs.Sides.{SidesLead}
use Rattle.scr_clock.proofs.SideLaws.{by_amount, amount_of_back, back_edges_carried, found, untrue}
use Rattle.scr_clock.proofs.least.turns_of_both_lead.Goals as goal

pub returns-then-not-are_back_edges_carried-clause-exact : goal.returns-then-not-are_back_edges_carried-clause-exact
returns-then-not-are_back_edges_carried-clause-exact c =
    let edges = c.are_back_edges_carried.ensures in
    untrue (λ s. iff_false edges.exact c.if-not-are_back_edges_carried.true (back_edges_carried c.args.clock.now edges.valid s))

pub returns-clause-exact : goal.returns-clause-exact
returns-clause-exact c =
    let dials = c.args.clock.now in
    let amount = c.amount_of_centre-amount in
    untrue (λ s. c.loop-pins.invariant s.setting.pins s.setting.some_pin (omega (arith, s.setting.four_pins))
    (by_amount true dials (SidesLead (false ∷ [])) s.setting amount.result
    (amount_of_back dials c.are_back_edges_carried.ensures.valid s ∙ sym amount.ensures.value) s.gives))

pub returns-then-turn_of_side_leads-clause-exact : goal.returns-then-turn_of_side_leads-clause-exact
returns-then-turn_of_side_leads-clause-exact c =
    let amount = c.amount_of_centre-amount in
    found true c.args.clock.now c.pins.result (SidesLead (false ∷ [])) c.loop-pins.pins amount.result (omega arith)
    (omega arith) amount.ensures.hours
    c.pins.ensures (c.turn_of_side_leads.ensures.exact.0 c.if-turn_of_side_leads.true)
