use Rattle.std.proofs.Common.{[], ◌∷◌, ◌++◌, ap, ◌∙◌}
use Rattle.scr_wcif.specs.Sets.{EventSets}
use Rattle.scr_wcif.proofs.TakeLemmas.{last-pushed}
use Rattle.scr_wcif.proofs.taking.push_to_last.Goals as goal

pub returns : goal.returns
returns c =
    let set = c.args.set in
    let changed : EventSets = record { event = c.last.inside.event; sets = c.add.new.items.items } in
    last-pushed c.add-2.result c.args.rounds.now.items c.pop.new.self.items c.add-2.new.items.items c.in-Some.last changed set c.in-Some.ensures.items
    (ap (λ sets. record { event = c.last.inside.event; sets = sets }) c.in_ok-add.ensures
    ∙ ap (λ (r : EventSets). record { event = r.event; sets = r.sets ++ set ∷ [] }) c.last.view_is)
    c.add-2.ensures
