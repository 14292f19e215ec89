use Rattle.std.proofs.Common.{[], sym, ap, subst, ◌∙◌}
use Rattle.std.specs.Prelude.{All}
use Rattle.scr_wcif.specs.Sets.{RoundHasNumbers}
use Rattle.scr_wcif.specs.Gathering.{with_groups}
use Rattle.scr_wcif.proofs.TakeLemmas.{rounds-groups, rounds-numbers}
use Rattle.scr_wcif.proofs.taking.taken_sets.Goals as goal

pub returns-clause-sets : goal.returns-clause-sets
returns-clause-sets c =
    let found = c.in-Ok.ensures.groups in
    record {
      rounds = found.0;
      is = found.1;
      sets_are = c.in_ok-rounds.ensures ∙ ap (with_groups []) found.2 ∙ rounds-groups 0 1 found.0 [] found.1.each;
    }

pub returns-clause-numbers : goal.returns-clause-numbers
returns-clause-numbers c =
    let found = c.in-Ok.ensures.groups in
    subst (All RoundHasNumbers) (sym (c.in_ok-rounds.ensures ∙ ap (with_groups []) found.2 ∙ rounds-groups 0 1 found.0 [] found.1.each))
    (rounds-numbers found.0 found.1.each)
