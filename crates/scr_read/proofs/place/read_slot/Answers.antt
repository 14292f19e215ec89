use Rattle.std.proofs.Common.{◌≡◌, ◌++◌, Some, sym, ap, subst, ◌∙◌}
use Rattle.std.specs.Prelude.{slice_get}
use Rattle.scr_round.specs.Round.{labels_from}
use Rattle.scr_read.proofs.PlaceLemmas.{no_label, no_scramble}
use Rattle.scr_read.proofs.place.read_slot.Goals as goal

pub returns-in_default : goal.returns-in_default
returns-in_default c =
    let there = subst (λ n. slice_get (labels_from 1 n) c.args.slot ≡ Some c.label-label.result.bytes) (c.from.ensures ∙ c.per_group.ensures.value) c.label-label.ensures in
    no_label c.args.rounds c.args.event c.args.groups c.args.slot c.label-label.result.bytes there c.args.line.now
    (λ begins. c.in_default.ensures (begins.0, begins.1 ∙ ap (λ x. x ++ begins.0) (sym c.as_str.ensures.value)))

pub returns-in-None : goal.returns-in-None
returns-in-None c =
    let there = subst (λ n. slice_get (labels_from 1 n) c.args.slot ≡ Some c.label-label.result.bytes) (c.from.ensures ∙ c.per_group.ensures.value) c.label-label.ensures in
    no_scramble c.args.rounds c.args.event c.args.groups c.args.slot c.label-label.result.bytes there c.args.line.now c.in-Some.text.now
    (c.in-Some.ensures ∙ ap (λ x. x ++ c.in-Some.text.now) c.as_str.ensures.value) c.in-None.ensures
