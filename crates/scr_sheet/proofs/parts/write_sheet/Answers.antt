use Rattle.std.proofs.Common.{Err, ap, ◌∙◌, subst}
use Rattle.std.specs.Prelude.{IfOk}
use Rattle.std.proofs.lemmas.Result.{err_from_is_err_and}
use Rattle.scr_outside.proofs.ChangeLemmas.{Gains-nothing}
use Rattle.scr_sheet.specs.Ready.{IsReadyFor}
use Rattle.scr_sheet.proofs.parts.write_sheet.Goals as goal

pub write_rounds-requires-clause-tables : goal.write_rounds-requires-clause-tables
write_rounds-requires-clause-tables g c κs within =
    let got : IsReadyFor c.args.rounds.now c.in_ok-tables.field-0 =
    subst (λ r. IfOk r (IsReadyFor c.args.rounds.now)) c.in_ok-tables.was c.requires.ready in
    rw c.new-making.ensures.tables got.tables

pub write_rounds-requires-clause-room : goal.write_rounds-requires-clause-room
write_rounds-requires-clause-room g c κs within =
    let got : IsReadyFor c.args.rounds.now c.in_ok-tables.field-0 =
    subst (λ r. IfOk r (IsReadyFor c.args.rounds.now)) c.in_ok-tables.was c.requires.ready in
    got.room

pub returns-in_err-tables-clause-ends : goal.returns-in_err-tables-clause-ends
returns-in_err-tables-clause-ends g c =
    let p = err_from_is_err_and c.from_residual.result c.from_residual.ensures.1 in
    rw c.in_err-tables.was (p.1 ∙ ap Err p.2, Gains-nothing)

pub returns-in_err-write_rounds-clause-ends : goal.returns-in_err-write_rounds-clause-ends
returns-in_err-write_rounds-clause-ends g c =
    let p = err_from_is_err_and c.from_residual-in_err-write_rounds.result c.from_residual-in_err-write_rounds.ensures.1 in
    rw (c.in_ok-tables.was, p.1, p.2) (rw c.new-making.ensures.settings at c.in_err-write_rounds.ensures)

pub returns-clause-ends : goal.returns-clause-ends
returns-clause-ends g c = rw c.in_ok-tables.was (rw c.new-making.ensures.settings at c.in_ok-write_rounds.ensures)
