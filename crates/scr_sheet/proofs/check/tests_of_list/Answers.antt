use Rattle.std.proofs.Common.{List, inl, inr, refl, ap, subst, ◌∙◌}
use Rattle.std.specs.Prelude.{Contains, filter, map, ◌↔◌}
use Rattle.std.proofs.lemmas.Result.{err_from_is_err_and}
use Rattle.scr_list.specs.declared.round.Round.{Round}
use Rattle.scr_notation.specs.declared.event.Event.{Event}
use Rattle.scr_notation.specs.EventSets.{Has}
use Rattle.scr_notation.specs.Event.{is_tested_by_table}
use Rattle.scr_slots.specs.Tables.{IsBuildCause}
use Rattle.scr_sheet.proofs.CheckedInput.{each_tested}
use Rattle.scr_sheet.proofs.check.tests_of_list.Goals as goal

pub returns-clause-tests : goal.returns-clause-tests
returns-clause-tests g c =
    let P : List Round → Type 0 = λ tested.
    (event : Event) → Has c.in_ok-tables.tables event ↔ Contains (map (λ (round : Round). round.event) tested) event
    in
    let tested = c.deref-2.ensures.0 ∙ c.tested_rounds.ensures ∙ ap (filter (λ (round : Round). is_tested_by_table round.event)) c.deref.ensures.0 in
    record {
      rounds = c.in_ok-rounds.ensures.rounds;
      tables = each_tested c.in_ok-tables.tables c.in_ok-rounds.rounds.items (subst P tested c.in_ok-tables.ensures.events);
    }

pub returns-clause-read : goal.returns-clause-read
returns-clause-read g c = c.in_ok-rounds.ensures.list

pub returns-in_err-rounds-clause-read : goal.returns-in_err-rounds-clause-read
returns-in_err-rounds-clause-read g c =
    let p = err_from_is_err_and c.from_residual.result c.from_residual.ensures.1 in
    rw (p.1, p.2) (inl (c.in_err-rounds.field-0.0, c.in_err-rounds.ensures.list, refl))

pub returns-in_err-tables-clause-read : goal.returns-in_err-tables-clause-read
returns-in_err-tables-clause-read g c =
    let p = err_from_is_err_and c.from_residual-in_err-tables.result c.from_residual-in_err-tables.ensures.1 in
    let tested = c.deref-2.ensures.0 ∙ c.tested_rounds.ensures ∙ ap (filter (λ (round : Round). is_tested_by_table round.event)) c.deref.ensures.0 in
    let why = c.in_err-tables.field-0.0 in
    let Causes : List Round → Type 0 = λ rounds. IsBuildCause (map (λ (round : Round). round.event) rounds) why in
    rw (p.1, p.2)
    (inr (
      c.in_ok-rounds.rounds.items,
      c.in_ok-rounds.ensures.list,
      c.in_ok-rounds.ensures.few_ahead,
      (why, subst Causes tested c.in_err-tables.ensures.cause, refl),
    ))
