use Rattle.std.proofs.Common.{arith}
use Rattle.std.proofs.lemmas.Result.{err_from_is_err_and}
use Rattle.scr_check.specs.Reading.{reading}
use Rattle.scr_check.proofs.CheckLemmas.{agreed-none, agreed-more, sheet-fault, sheet-agrees, sheet-more, sheet-failed}
use Rattle.scr_check.proofs.check.check_lines.Goals as goal

pub loop-line-init : goal.loop-line-init
loop-line-init g c = grind (arith, agreed-none)

pub loop-line-preserved : goal.loop-line-preserved
loop-line-preserved g c = grind (arith, agreed-more)

pub returns-in_err-check_line-clause-sheet : goal.returns-in_err-check_line-clause-sheet
returns-in_err-check_line-clause-sheet g c =
    let p = err_from_is_err_and c.from_residual.result c.from_residual.ensures.1 in
    rw (p.1, p.2) (sheet-fault g.S.Source.left g.S.Source.faults g.S.Source.ends (reading c.args.reader.now) (reading c.loop-line.reader)
    (reading c.check_line.new.reader) (g.X.Expected.lines c.args.expected.now) c.count-count.ensures.lawful c.loop-line.line c.in_err-check_line.field-0.0
    c.loop-line.invariant.agreed (omega (arith, c.count-count.ensures.value)) (rw c.in_err-check_line.was at c.check_line.ensures.line))

pub returns-in-None-clause-sheet : goal.returns-in-None-clause-sheet
returns-in-None-clause-sheet g c =
    sheet-agrees g.S.Source.left g.S.Source.faults g.S.Source.ends (reading c.args.reader.now) (reading c.loop-line.reader) (reading c.next.new.self)
    (g.X.Expected.lines c.args.expected.now) c.count-count.ensures.lawful c.loop-line.line tt c.loop-line.invariant.agreed (omega (arith, c.count-count.ensures.value))
    (rw c.in-None.is at c.in_ok-next.ensures.byte) (c.in_ok-next.ensures.end.0 c.in-None.is)

pub returns-in-Some-clause-sheet : goal.returns-in-Some-clause-sheet
returns-in-Some-clause-sheet g c =
    sheet-more g.S.Source.left g.S.Source.faults g.S.Source.ends (reading c.args.reader.now) (reading c.loop-line.reader) (reading c.next.new.self)
    (g.X.Expected.lines c.args.expected.now) c.count-count.ensures.lawful c.loop-line.line c.in-Some.field-0 c.count-count.result c.loop-line.invariant.agreed
    (omega (arith, c.count-count.ensures.value)) (omega (arith, c.count-count.ensures.value)) (rw c.in-Some.is at c.in_ok-next.ensures.byte)

pub returns-in_err-next-clause-sheet : goal.returns-in_err-next-clause-sheet
returns-in_err-next-clause-sheet g c =
    let p = err_from_is_err_and c.from_residual-in_err-next.result c.from_residual-in_err-next.ensures.1 in
    rw (p.1, p.2) (sheet-failed g.S.Source.left g.S.Source.faults g.S.Source.ends (reading c.args.reader.now) (reading c.loop-line.reader)
    (reading c.next.new.self) (g.X.Expected.lines c.args.expected.now) c.loop-line.line c.loop-line.invariant.agreed c.in_err-next.ensures.failed)
