use Rattle.std.proofs.Common.{sym, subst, ap, ◌∙◌, length, ◌<◌, arith}
use Rattle.std.proofs.lemmas.List.{length-map}
use Rattle.scr_notation.specs.declared.event.Event.TheVariants.{C222}
use Rattle.scr_read.specs.Heads.{HeadOf}
use Rattle.scr_layout.specs.Group.{IsGroup}
use Rattle.scr_pages.specs.Marked.{mark_of_round}
use Rattle.scr_pages.proofs.MarkLemmas.{read-shown, shown-valid}
use Rattle.scr_pages.proofs.marks.shown.Goals as goal

pub new-requires : goal.new-requires
new-requires c =
    let rounds = c.requires.0 in
    let is = c.requires.2 in
    subst IsGroup
    (sym (read-shown rounds c.args.marks.now c.args.group.now (record { event = C222; groups = 0 }) c.event-event.result c.round-index.result c.round.result
    c.rounds_of_event.result c.rounds_of_event-2.result c.number.result c.head.inside.name.bytes c.scrambles.result.now
    c.requires.1 is.round c.event-event.ensures.value c.round-index.ensures.value c.round.ensures.value
    c.rounds_of_event.ensures.value c.rounds_of_event-2.ensures.value c.number.ensures.value
    (ap (λ (h : HeadOf). h.name) (c.head.view_is ∙ c.head-head.ensures.value)) c.scrambles.ensures.value))
    (shown-valid rounds c.args.group.now is)

pub returns : goal.returns
returns c = λ rounds are.
    let same = length-map c.requires.0 mark_of_round in
    let other = length-map rounds mark_of_round in
    let below : c.args.group.now.round < length rounds = omega (arith, same, other, ap length are, ap length c.requires.1, c.requires.2.round) in
    c.new.ensures
    ∙ read-shown rounds c.args.marks.now c.args.group.now (record { event = C222; groups = 0 }) c.event-event.result c.round-index.result c.round.result
    c.rounds_of_event.result c.rounds_of_event-2.result c.number.result c.head.inside.name.bytes c.scrambles.result.now
    are below c.event-event.ensures.value c.round-index.ensures.value c.round.ensures.value
    c.rounds_of_event.ensures.value c.rounds_of_event-2.ensures.value c.number.ensures.value
    (ap (λ (h : HeadOf). h.name) (c.head.view_is ∙ c.head-head.ensures.value)) c.scrambles.ensures.value
