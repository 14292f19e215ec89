use Rattle.std.proofs.Common.{◌≡◌, arith, length, rules, subst, take}
use Rattle.std.specs.Prelude.{All}
use Rattle.std.proofs.lemmas.List.Elements.{All-more}
use Rattle.std.proofs.lemmas.Option.{slice_get_within, get_or_from_slice_get}
use Rattle.scr_notation.specs.declared.event.Event.TheVariants.{C222}
use Rattle.scr_notation.specs.Event.{events}
use Rattle.scr_slots.proofs.EachEvent.{IsFairIn}
use Rattle.scr_slots.proofs.laws.each_drawn_fairly.Goals.{then-has, else-has}
use Rattle.scr_slots.proofs.laws.each_drawn_fairly.Goals as goal

pub loop-event-preserved : goal.loop-event-preserved
loop-event-preserved c =
    All-more (IsFairIn c.args.tables.now) events c.loop-event.event-index C222 c.loop-event-test.true c.loop-event.invariant
    (elim c.if-has.branch [ then-has w ↦ λ _. rw w.row.ensures.puzzle at w.ask.ensures | else-has w ↦ λ has. absurd (search rules) ])

pub returns : goal.returns
returns c = λ event least has.
    let P = IsFairIn c.args.tables.now in
    let size : c.loop-event.event-index ≡ length events = omega arith in
    let each : All P events = subst (λ i. All P (take i events)) size c.loop-event.invariant in
    subst P (get_or_from_slice_get events has.number event C222 has.of_event) (each has.number C222 (slice_get_within events has.number event has.of_event)) has least
