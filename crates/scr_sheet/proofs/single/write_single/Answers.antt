use Rattle.std.proofs.Common.{Err, ap, ◌∙◌, subst}
use Rattle.std.specs.Prelude.{IfOk}
use Rattle.std.proofs.lemmas.Result.{err_from_is_err_and}
use Rattle.scr_notation.specs.EventSets.{Has}
use Rattle.scr_outside.proofs.ChangeLemmas.{Gains-nothing}
use Rattle.scr_sheet.proofs.single.write_single.Goals as goal

pub write_drawn-requires-clause-tables : goal.write_drawn-requires-clause-tables
write_drawn-requires-clause-tables g c =
    subst (λ t. IfOk t (λ tables. Has tables c.args.event)) c.in_ok-tables.was c.requires.tables

pub returns-in_err-tables-clause-ends : goal.returns-in_err-tables-clause-ends
returns-in_err-tables-clause-ends g c =
    let p = err_from_is_err_and c.from_residual.result c.from_residual.ensures.1 in
    rw c.in_err-tables.was (p.1 ∙ ap Err p.2, Gains-nothing)

pub returns-in_err-write_drawn-clause-ends : goal.returns-in_err-write_drawn-clause-ends
returns-in_err-write_drawn-clause-ends g c =
    let p = err_from_is_err_and c.from_residual-in_err-write_drawn.result c.from_residual-in_err-write_drawn.ensures.1 in
    rw (c.in_ok-tables.was, p.1, p.2) c.in_err-write_drawn.ensures

pub returns-clause-ends : goal.returns-clause-ends
returns-clause-ends g c = rw c.in_ok-tables.was c.in_ok-write_drawn.ensures
