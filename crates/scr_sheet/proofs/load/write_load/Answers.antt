use Rattle.std.proofs.Common.{Ok, Err, refl, ap, ◌∙◌, subst}
use Rattle.std.specs.Prelude.{IfOk}
use Rattle.std.proofs.lemmas.Result.{err_from_is_err_and}
use Rattle.scr_outside.proofs.ChangeLemmas.{Gains-nothing}
use Rattle.scr_fault.specs.declared.fault.Fault.TheVariants as fault
use Rattle.scr_sheet.specs.Ready.{IsReadyFor}
use Rattle.scr_sheet.proofs.load.write_load.Goals as goal

pub rounds_size-requires-clause-tables : goal.rounds_size-requires-clause-tables
rounds_size-requires-clause-tables g c κs within =
    let got : IsReadyFor c.args.rounds.now c.in_ok-tables.field-0 =
    subst (λ r. IfOk r (IsReadyFor c.args.rounds.now)) c.in_ok-tables.was c.requires.ready in
    rw c.new-making.ensures.tables got.tables

pub rounds_size-requires-clause-room : goal.rounds_size-requires-clause-room
rounds_size-requires-clause-room g c κs within =
    let got : IsReadyFor c.args.rounds.now c.in_ok-tables.field-0 =
    subst (λ r. IfOk r (IsReadyFor c.args.rounds.now)) c.in_ok-tables.was c.requires.ready in
    got.room

pub returns-in_err-tables-clause-ends : goal.returns-in_err-tables-clause-ends
returns-in_err-tables-clause-ends g c =
    let p = err_from_is_err_and c.from_residual.result c.from_residual.ensures.1 in
    rw c.in_err-tables.was (p.1 ∙ ap Err p.2, Gains-nothing)

pub returns-in_err-size-clause-ends : goal.returns-in_err-size-clause-ends
returns-in_err-size-clause-ends g c =
    let p = err_from_is_err_and c.from_residual-in_err-size.result c.from_residual-in_err-size.ensures.1 in
    let sized = c.in_err-size.ensures in
    rw (c.in_ok-tables.was, p.1, p.2)
    (record {
      sheet = sized.sheet;
      made = Err (fault.DrawLimit c.in_err-size.field-0.0);
      ends = rw (c.new-making.ensures.settings, c.default.ensures) at sized.ends;
      told = (refl, Gains-nothing);
    })

pub returns-in_err-write_size-clause-ends : goal.returns-in_err-write_size-clause-ends
returns-in_err-write_size-clause-ends g c =
    let p = err_from_is_err_and c.from_residual-in_err-write_size.result c.from_residual-in_err-write_size.ensures.1 in
    let sized = c.in_ok-size.ensures in
    rw (c.in_ok-tables.was, p.1, p.2)
    (record {
      sheet = sized.sheet;
      made = Ok tt;
      ends = rw (c.new-making.ensures.settings, c.default.ensures) at sized.ends;
      told = (refl, c.in_err-write_size.ensures sized.sheet sized.amounts);
    })

pub returns-clause-ends : goal.returns-clause-ends
returns-clause-ends g c =
    let sized = c.in_ok-size.ensures in
    rw c.in_ok-tables.was
    (record {
      sheet = sized.sheet;
      made = Ok tt;
      ends = rw (c.new-making.ensures.settings, c.default.ensures) at sized.ends;
      told = c.in_ok-write_size.ensures sized.sheet sized.amounts;
    })
