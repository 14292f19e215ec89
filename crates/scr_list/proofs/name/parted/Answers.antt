use Rattle.std.proofs.Common.{◌+◌, Some, None, sym, ap, ◌∙◌, arith, length-drop}
use Rattle.std.proofs.lemmas.List.{take_all}
use Rattle.scr_list.proofs.NameLemmas.{told_part-some, told_part-none, name_part-at, parts-whole}
use Rattle.scr_list.proofs.name.parted.Goals as goal

pub returns-then-not-takes_names-clause-told : goal.returns-then-not-takes_names-clause-told
returns-then-not-takes_names-clause-told c = rw c.if-not-takes_names.true (sym (parts-whole c.args.line.now).0)

pub returns-then-not-takes_names-clause-name : goal.returns-then-not-takes_names-clause-name
returns-then-not-takes_names-clause-name c = rw c.if-not-takes_names.true (sym (parts-whole c.args.line.now).1)

pub returns-in-Some-clause-told : goal.returns-in-Some-clause-told
returns-in-Some-clause-told c = grind (arith, told_part-some)

pub returns-in-Some-clause-name : goal.returns-in-Some-clause-name
returns-in-Some-clause-name c =
    let line = c.args.line.now in
    rw c.if-not-takes_names.false
    (ap Some (take_all _ _ (omega (arith, length-drop (c.in-Some.colon + 1) line)))
    ∙ sym (name_part-at line (Some c.in-Some.colon) (sym c.first_colon.ensures.place ∙ c.in-Some.is)))

pub returns-in-None-clause-told : goal.returns-in-None-clause-told
returns-in-None-clause-told c = grind (arith, told_part-none)

pub returns-in-None-clause-name : goal.returns-in-None-clause-name
returns-in-None-clause-name c =
    rw c.if-not-takes_names.false (sym (name_part-at c.args.line.now None (sym c.first_colon.ensures.place ∙ c.in-None.is)))
