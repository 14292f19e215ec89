use Rattle.std.proofs.Common.{◌≡◌, ◌∙◌, Global}
use Rattle.std.specs.Prelude.{codes}
use Rattle.json.specs.declared.value.Value.{Value}
use Rattle.json.specs.Value.{value_view}
use Rattle.scr_wcif.specs.Filling.{with_field, filled_round}
use Rattle.scr_wcif.proofs.FillLemmas.{ok-weaker, round-filled}
use Rattle.scr_wcif.proofs.filling.filled_round.Goals as goal

pub returns-in_ok-sets_of-in-Some : goal.returns-in_ok-sets_of-in-Some
returns-in_ok-sets_of-in-Some c =
    let round = value_view c.args.round in
    let sets = value_view c.in_ok-sets_of-in-Some.field-0 in
    let step = round-filled c.args.rounds.now round sets c.in-Some.sets.now c.in-Some.ensures c.in_ok-sets_of-in-Some.ensures in
    ok-weaker (λ (new : Value Global). value_view new ≡ with_field (codes "scrambleSets") sets round)
    (λ (new : Value Global). value_view new ≡ filled_round c.args.rounds.now round) c.with_field.result (λ new is. is ∙ step) c.with_field.ensures
