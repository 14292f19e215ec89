use Rattle.std.proofs.Common.{◌-◌, List, take, drop, length, sym, subst, Global}
use Rattle.json.specs.declared.value.Value.{Value}
use Rattle.json.specs.Value.{value_view, items_view}
use Rattle.scr_wcif.specs.FileRounds.{rounds_of_entries}
use Rattle.scr_wcif.specs.Adding.{Adds}
use Rattle.scr_wcif.proofs.StepLemmas.{split-first, rounds-Adds}
use Rattle.scr_wcif.proofs.rounds.+push_rounds.Goals as goal

pub returns-in_ok-add-in-len1-up-clause-rounds : goal.returns-in_ok-add-in-len1-up-clause-rounds
returns-in_ok-add-in-len1-up-clause-rounds t c =
    let values = c.args.rounds.now in
    let P : List (Value Global) → Type 0 = λ vs. Adds (rounds_of_entries c.args.place c.args.id.now c.args.count c.args.number (items_view vs))
    c.args.named.now.items c.push_rounds.new.named.items c.push_rounds.result in
    subst P (sym (split-first values c.entry-item.result c.in-len1-up.len_at_least c.entry-item.is))
    (rounds-Adds c.args.place c.args.id.now c.args.count c.args.number (value_view c.entry-item.result)
    (items_view (take (length values - 1) (drop 1 values))) c.in_ok-round-in-len1-up.round
    c.args.named.now.items c.add.new.items.items c.push_rounds.new.named.items c.push_rounds.result
    c.in_ok-round-in-len1-up.ensures c.in_ok-add-in-len1-up.ensures c.push_rounds.ensures.rounds)
