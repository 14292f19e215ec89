use Rattle.std.proofs.Common.{◌≡◌, ◌+◌, ◌++◌, ◌∷◌, [], sym, ap, ◌∙◌, subst, arith, rules}
use Rattle.std.proofs.lemmas.List.FromFn.{map-range_with_len_more}
use Rattle.scr_list.specs.RoundLists.{IsRounds}
use Rattle.scr_sheet.specs.Load.{load_round, load_rounds}
use Rattle.scr_sheet.proofs.LoadRounds.{load_rounds-IsRounds}
use Rattle.scr_sheet.proofs.load.load_rounds.Goals as goal

pub loop-k-preserved : goal.loop-k-preserved
loop-k-preserved c = record {
  made =
      c.push.ensures.items ∙ ap (λ r. c.loop-k.rounds.items ++ r ∷ []) c.load_round.ensures
      ∙ ap (λ rs. rs ++ load_round c.args.number c.loop-k.k ∷ []) c.loop-k.invariant.made
      ∙ sym (map-range_with_len_more (load_round c.args.number) 0 c.loop-k.k c.loop-k.k (omega arith));
  count = c.push.ensures.len ∙ ap (λ n. n + 1) c.loop-k.invariant.count;
}

pub returns-clause-valid : goal.returns-clause-valid
returns-clause-valid c =
    let all : c.loop-k.rounds.items ≡ load_rounds c.args.number = search rules in
    subst IsRounds (sym all) (load_rounds-IsRounds c.args.number)
