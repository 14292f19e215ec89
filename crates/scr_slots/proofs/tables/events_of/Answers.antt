use Rattle.std.proofs.Common.{◌≡◌, ap, ◌∙◌, arith, subst}
use Rattle.std.specs.Prelude.{◌⊎◌, ◌↔◌}
use Rattle.scr_notation.specs.declared.event.Event.{Event}
use Rattle.scr_notation.specs.EventSets.{Has}
use Rattle.scr_list.specs.declared.round.Round.{Round}
use Rattle.scr_slots.proofs.BuildCauses.{events-more, events-all}
use Rattle.scr_slots.proofs.tables.events_of.Goals as goal

pub loop-round-init : goal.loop-round-init
loop-round-init c = λ event. (λ has. absurd (c.new-events.ensures event has), λ there. absurd (omega (arith, there.1)))

pub loop-round-preserved : goal.loop-round-preserved
loop-round-preserved c =
    let P : Event → Type 0 = λ next. (event : Event) → Has c.insert.new.self event ↔ (Has c.loop-round.events event ⊎ (event ≡ next)) in
    events-more c.args.rounds.now c.loop-round.round-index c.round-item.result c.loop-round.events c.insert.new.self c.loop-round-test.true c.loop-round.invariant
    (subst P (ap (λ (r : Round). r.event) (c.round.view_is ∙ c.round-item.is)) c.insert.ensures)

pub returns : goal.returns
returns c = events-all c.args.rounds.now c.loop-round.round-index c.loop-round.events (omega arith) c.loop-round.invariant
