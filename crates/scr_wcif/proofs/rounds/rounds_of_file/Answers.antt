use Rattle.std.proofs.Common.{List, [], Ok, Err, Result, sym, ap, subst, ◌∙◌, Bor, Global}
use Rattle.std.specs.Prelude.{option_map}
use Rattle.std.proofs.lemmas.Result.{err_from_is_err_and}
use Rattle.json.specs.declared.value.Value.{Value}
use Rattle.json.specs.Value.{value_view, items_view}
use Rattle.scr_wcif.specs.declared.fault.FileFault.{FileFault}
use Rattle.scr_wcif.specs.FileRound.{NamedRound}
use Rattle.scr_wcif.specs.FileRounds.{rounds_of_events}
use Rattle.scr_wcif.specs.Adding.{Adds}
use Rattle.scr_wcif.proofs.StepLemmas.{file-rounds, from-empty, whole-Ok}
use Rattle.scr_wcif.proofs.rounds.rounds_of_file.Goals as goal

pub returns-in_err-push_events-clause-rounds : goal.returns-in_err-push_events-clause-rounds
returns-in_err-push_events-clause-rounds c =
    let events = items_view c.in_ok-events.events.now in
    let whole = file-rounds (value_view c.args.file.now) events
    (sym c.list_at.ensures ∙ ap (option_map (λ (list : Bor (List (Value Global))). items_view list.now)) c.in_ok-events.ensures.ok_part) in
    let p = err_from_is_err_and c.from_residual-in_err-push_events.result c.from_residual-in_err-push_events.ensures.1 in
    let why = c.in_err-push_events.field-0.0 in
    let P : Result (List NamedRound) FileFault → Type 0 = λ named. Adds named [] c.push_events.new.named.items (Err why) in
    rw (p.1, p.2)
    (subst P (sym whole)
    (from-empty c.new-before.result.items c.new-named.result.items c.push_events.new.named.items events (Err why)
    c.new-before.ensures.items c.new-named.ensures.items c.in_err-push_events.ensures.rounds))

pub returns-clause-rounds : goal.returns-clause-rounds
returns-clause-rounds c =
    let events = items_view c.in_ok-events.events.now in
    file-rounds (value_view c.args.file.now) events
    (sym c.list_at.ensures ∙ ap (option_map (λ (list : Bor (List (Value Global))). items_view list.now)) c.in_ok-events.ensures.ok_part)
    ∙ whole-Ok (rounds_of_events 1 [] events) c.push_events.new.named.items
    (from-empty c.new-before.result.items c.new-named.result.items c.push_events.new.named.items events (Ok tt)
    c.new-before.ensures.items c.new-named.ensures.items c.in_ok-push_events.ensures.rounds)
