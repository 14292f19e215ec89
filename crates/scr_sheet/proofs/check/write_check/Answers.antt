use Rattle.std.proofs.Common.{Ok, Err, refl, ap, subst, ◌∙◌, arith}
use Rattle.std.specs.Prelude.{IfOk, Result}
use Rattle.std.proofs.lemmas.Result.{err_from_is_err_and}
use Rattle.scr_check.specs.Reading.{reading}
use Rattle.scr_check.specs.Taken.{ChecksSheet}
use Rattle.scr_check.specs.declared.fault.CheckFault.{CheckFault}
use Rattle.scr_outside.proofs.ChangeLemmas.{Gains-nothing}
use Rattle.scr_sheet.specs.Check.{SheetRounds, expected_lines}
use Rattle.scr_sheet.specs.Ready.{AreTests}
use Rattle.scr_sheet.proofs.check.write_check.Goals as goal

pub new-requires-clause-tables : goal.new-requires-clause-tables
new-requires-clause-tables g c =
    let got : AreTests c.in_ok-rounds.field-0 = subst (λ t. IfOk t AreTests) c.in_ok-rounds.was c.requires.tests in
    rw c.deref.ensures.0 got.tables

pub new-requires-clause-rounds : goal.new-requires-clause-rounds
new-requires-clause-rounds g c =
    let got : AreTests c.in_ok-rounds.field-0 = subst (λ t. IfOk t AreTests) c.in_ok-rounds.was c.requires.tests in
    rw c.deref.ensures.0 got.rounds

pub check_lines-requires : goal.check_lines-requires
check_lines-requires g c = rw (c.new.ensures.value) (let few = c.new.ensures.few in omega (arith, few))

pub returns-in_err-rounds-clause-ends : goal.returns-in_err-rounds-clause-ends
returns-in_err-rounds-clause-ends g c =
    let p = err_from_is_err_and c.from_residual.result c.from_residual.ensures.1 in
    rw c.in_err-rounds.was (refl, (p.1 ∙ ap Err p.2, Gains-nothing))

pub returns-in_err-check_lines-clause-ends : goal.returns-in_err-check_lines-clause-ends
returns-in_err-check_lines-clause-ends g c =
    let p = err_from_is_err_and c.from_residual-in_err-check_lines.result c.from_residual-in_err-check_lines.ensures.1 in
    let found : Result (Unit {0}) CheckFault = Err c.in_err-check_lines.field-0.0 in
    let Checks : SheetRounds → Type 0 = λ lines.
    ChecksSheet g.S.Source.left g.S.Source.faults g.S.Source.ends (reading c.args.reader.now) (reading c.check_lines.new.reader)
    (expected_lines lines.settings lines.rounds) found
    in
    rw (c.in_ok-rounds.was, p.1, p.2, ← c.deref.ensures.0)
    (found, subst Checks c.new.ensures.value c.in_err-check_lines.ensures.sheet, (refl, Gains-nothing))

pub returns-in_err-write_line-clause-ends : goal.returns-in_err-write_line-clause-ends
returns-in_err-write_line-clause-ends g c =
    let p = err_from_is_err_and c.from_residual-in_err-write_line.result c.from_residual-in_err-write_line.ensures.1 in
    let found : Result (Unit {0}) CheckFault = Ok tt in
    let Checks : SheetRounds → Type 0 = λ lines.
    ChecksSheet g.S.Source.left g.S.Source.faults g.S.Source.ends (reading c.args.reader.now) (reading c.check_lines.new.reader)
    (expected_lines lines.settings lines.rounds) found
    in
    rw (c.in_ok-rounds.was, p.1, p.2, ← c.deref.ensures.0)
    (found, subst Checks c.new.ensures.value c.in_ok-check_lines.ensures.sheet, (refl, c.in_err-write_line.ensures))

pub returns-clause-ends : goal.returns-clause-ends
returns-clause-ends g c =
    let found : Result (Unit {0}) CheckFault = Ok tt in
    let Checks : SheetRounds → Type 0 = λ lines.
    ChecksSheet g.S.Source.left g.S.Source.faults g.S.Source.ends (reading c.args.reader.now) (reading c.check_lines.new.reader)
    (expected_lines lines.settings lines.rounds) found
    in
    rw (c.in_ok-rounds.was, ← c.deref.ensures.0)
    (found, subst Checks c.new.ensures.value c.in_ok-check_lines.ensures.sheet, c.in_ok-write_line.ensures)
