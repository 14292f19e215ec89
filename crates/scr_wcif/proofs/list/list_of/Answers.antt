use Rattle.std.proofs.Common.{◌≡◌, ◌+◌, ◌∷◌, drop, arith, sym, ap, ◌∙◌}
use Rattle.std.proofs.lemmas.Grind.{common_steps}
use Rattle.std.proofs.lemmas.List.{drop_more}
use Rattle.scr_list.specs.Rounds.{IsRound}
use Rattle.scr_wcif.specs.Listed.{HasUsual, listed_round}
use Rattle.scr_wcif.proofs.StepLemmas.{all-added, filter_map-step}
use Rattle.scr_wcif.proofs.list.list_of.Goals as goal

pub loop-round-preserved : goal.loop-round-preserved
loop-round-preserved c =
    let so_far = c.loop-round.invariant in
    let named = c.args.named.now in
    let rest = drop (c.loop-round.round-index + 1) named in
    let step = filter_map-step listed_round c.round-item.result rest in
    let here : drop c.loop-round.round-index named ≡ c.round-item.result ∷ rest =
    drop_more named c.loop-round.round-index c.round-item.result c.loop-round-test.true ∙ ap (λ x. x ∷ rest) (sym c.round-item.is) in
    record {
      rounds = grind (arith, common_steps, step, here);
      valid = all-added IsRound c.loop-round.rounds.items c.add.new.items.items c.in-Some.listed c.in-Some.ensures.valid so_far.valid c.in_ok-add.ensures;
      usual = all-added HasUsual c.loop-round.rounds.items c.add.new.items.items c.in-Some.listed c.in-Some.ensures.usual so_far.usual c.in_ok-add.ensures;
      few = grind (arith, common_steps);
    }
