use Rattle.std.proofs.Common.{◌≤◌, List, length, sym, subst}
use Rattle.scr_read.specs.Groups.{GroupOf}
use Rattle.scr_read.proofs.GroupLemmas.{all_groups, few_groups_of}
use Rattle.scr_read.proofs.groups.SheetGroups.of.Goals as goal

pub invariant_of-result : goal.invariant_of-result
invariant_of-result c =
    let sheet = c.in_ok-read.ensures.sheet in
    (all_groups c.args.text.now _ c.of.result sheet.0 sheet.1 (c.of.ensures sheet.0 sheet.1)).0

pub returns-clause-groups : goal.returns-clause-groups
returns-clause-groups c =
    let sheet = c.in_ok-read.ensures.sheet in
    (sheet.0, sheet.1, (all_groups c.args.text.now _ c.of.result sheet.0 sheet.1 (c.of.ensures sheet.0 sheet.1)).1)

pub returns-clause-few : goal.returns-clause-few
returns-clause-few c =
    let sheet = c.in_ok-read.ensures.sheet in
    let all = all_groups c.args.text.now _ c.of.result sheet.0 sheet.1 (c.of.ensures sheet.0 sheet.1) in
    subst (λ (groups : List GroupOf). length groups ≤ 6656) (sym all.1) (few_groups_of c.args.text.now sheet.0 sheet.1)
