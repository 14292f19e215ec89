use Rattle.std.proofs.Common.{◌≡◌, ◌-◌, ℕ, List, map, take, drop, length, Ok, Err, sym, subst, Bor, Global}
use Rattle.std.proofs.lemmas.Result.{err_from_is_err_and}
use Rattle.json.specs.declared.value.Value.{Value}
use Rattle.json.specs.Value.{value_view, items_view}
use Rattle.scr_wcif.specs.FileRounds.{event_of_entry, rounds_of_entries, rounds_of_events}
use Rattle.scr_wcif.specs.Adding.{Adds, entry_told}
use Rattle.scr_wcif.proofs.ItemLemmas.{count_of_items}
use Rattle.scr_wcif.proofs.StepLemmas.{split-first, events-fail, events-Adds, later-ids}
use Rattle.scr_wcif.proofs.rounds.+push_events.Goals as goal

pub returns-in_err-push_rounds-in-len1-up-clause-rounds : goal.returns-in_err-push_rounds-in-len1-up-clause-rounds
returns-in_err-push_rounds-in-len1-up-clause-rounds t c =
    let values = c.args.events.now in
    let before = map (λ (id : Bor (List ℕ)). id.now) c.args.before.now.items in
    let p = err_from_is_err_and c.from_residual-in_err-push_rounds-in-len1-up.result c.from_residual-in_err-push_rounds-in-len1-up.ensures.1 in
    let event = c.in_ok-event-in-len1-up.event in
    let P : List (Bor (List ℕ)) → Type 0 = λ ids. event_of_entry c.args.place (map (λ (id : Bor (List ℕ)). id.now) ids) (value_view c.entry-item.result) ≡ Ok (entry_told event) in
    let is : event_of_entry c.args.place before (value_view c.entry-item.result) ≡ Ok (entry_told event) = subst P c.deref.ensures.value (sym c.in_ok-event-in-len1-up.ensures.value) in
    let N : ℕ → Type 0 = λ n. Adds (rounds_of_entries c.args.place event.id.now n 1 (items_view event.rounds.now)) c.args.named.now.items c.push_rounds.new.named.items (Err c.in_err-push_rounds-in-len1-up.field-0.0) in
    let Q : List (Value Global) → Type 0 = λ vs. Adds (rounds_of_events c.args.place before (items_view vs)) c.args.named.now.items c.push_rounds.new.named.items (Err c.in_err-push_rounds-in-len1-up.field-0.0) in
    rw (p.1, p.2)
    (subst Q (sym (split-first values c.entry-item.result c.in-len1-up.len_at_least c.entry-item.is))
    (events-fail c.args.place before (value_view c.entry-item.result) (items_view (take (length values - 1) (drop 1 values))) (entry_told event)
    c.args.named.now.items c.push_rounds.new.named.items c.in_err-push_rounds-in-len1-up.field-0.0 is
    (subst N (sym (count_of_items event.rounds.now)) c.in_err-push_rounds-in-len1-up.ensures.rounds)))

pub returns-in_ok-add-in-len1-up-clause-rounds : goal.returns-in_ok-add-in-len1-up-clause-rounds
returns-in_ok-add-in-len1-up-clause-rounds t c =
    let values = c.args.events.now in
    let before = map (λ (id : Bor (List ℕ)). id.now) c.args.before.now.items in
    let event = c.in_ok-event-in-len1-up.event in
    let P : List (Bor (List ℕ)) → Type 0 = λ ids. event_of_entry c.args.place (map (λ (id : Bor (List ℕ)). id.now) ids) (value_view c.entry-item.result) ≡ Ok (entry_told event) in
    let is : event_of_entry c.args.place before (value_view c.entry-item.result) ≡ Ok (entry_told event) = subst P c.deref.ensures.value (sym c.in_ok-event-in-len1-up.ensures.value) in
    let N : ℕ → Type 0 = λ n. Adds (rounds_of_entries c.args.place event.id.now n 1 (items_view event.rounds.now)) c.args.named.now.items c.push_rounds.new.named.items (Ok tt) in
    let Q : List (Value Global) → Type 0 = λ vs. Adds (rounds_of_events c.args.place before (items_view vs)) c.args.named.now.items c.push_events.new.named.items c.push_events.result in
    subst Q (sym (split-first values c.entry-item.result c.in-len1-up.len_at_least c.entry-item.is))
    (events-Adds c.args.place before (map (λ (id : Bor (List ℕ)). id.now) c.add.new.items.items) (value_view c.entry-item.result) (items_view (take (length values - 1) (drop 1 values))) (entry_told event)
    c.args.named.now.items c.push_rounds.new.named.items c.push_events.new.named.items c.push_events.result is
    (subst N (sym (count_of_items event.rounds.now)) c.in_ok-push_rounds-in-len1-up.ensures.rounds)
    (later-ids c.args.before.now.items c.add.new.items.items event.id c.in_ok-add-in-len1-up.ensures)
    c.push_events.ensures.rounds)
