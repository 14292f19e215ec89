use Rattle.std.proofs.Common.{◌≡◌, [], true, false, sym, ◌∙◌, arith}
use Rattle.std.proofs.lemmas.Bool.{false≢true, eqb-true, eqb-false}
use Rattle.std.proofs.lemmas.Result.{err_from_is_err_and}
use Rattle.scr_check.specs.Reading.{reading}
use Rattle.scr_check.proofs.CheckLemmas.{IsLineRead, of-plain, line-absent, line-limit, line-differs}
use Rattle.scr_check.proofs.check.check_line.Given.{Over}
use Rattle.scr_check.proofs.check.check_line.Goals.{In_ok-ended, After-agrees, else-is_empty-via-then-is_empty+else-not-ended, else-is_empty-via-else-is_empty, else-agrees-via-then-agrees+else-ended, else-agrees-via-else-agrees}
use Rattle.scr_check.proofs.check.check_line.Goals as goal

read : (g : Over) (c : In_ok-ended g) →
    IsLineRead g.S.Source.left g.S.Source.faults g.S.Source.ends (reading c.args.reader.now) (reading c.read_line.new.reader) c.read_line.new.text.items c.in_ok-ended.ended
read g c = grind arith

there : (g : Over) (c : After-agrees g) → c.read_line.new.text.items ≡ [] → c.in_ok-ended.ended ≡ true
there g c = grind (arith, else-is_empty-via-then-is_empty+else-not-ended, else-is_empty-via-else-is_empty, eqb-false)

pub returns-in_err-ended-clause-line : goal.returns-in_err-ended-clause-line
returns-in_err-ended-clause-line g c = grind (arith, err_from_is_err_and, of-plain)

pub returns-then-not-ended-clause-line : goal.returns-then-not-ended-clause-line
returns-then-not-ended-clause-line g c = grind (arith, line-absent, read, eqb-true)

pub returns-else-agrees-clause-line : goal.returns-else-agrees-clause-line
returns-else-agrees-clause-line g c =
    let at = goal.at.returns-else-agrees-clause-line g c in
    let not : c.in_ok-ended.ended ≡ true → c.in-Ok.agrees ≡ false = elim c.else-agrees.branch [
      | else-agrees-via-then-agrees+else-ended w ↦ λ ended. absurd (false≢true (sym w.if-ended.false ∙ ended))
      | else-agrees-via-else-agrees w ↦ λ _. w.if-agrees.false
    ] in
    line-differs g.S.Source.left g.S.Source.faults g.S.Source.ends (reading c.args.reader.now) (reading c.read_line.new.reader)
    (g.X.Expected.lines c.args.expected.now) c.requires.lawful c.args.line c.read_line.new.text.items c.in_ok-ended.ended c.in-Ok.agrees
    (read g at.In_ok-ended) (there g at.After-agrees) (rw (c.as_slice.ensures.value, c.in-Ok.is) at c.agrees.ensures) not

pub returns-in-Err-clause-line : goal.returns-in-Err-clause-line
returns-in-Err-clause-line g c =
    let at = goal.at.returns-in-Err-clause-line g c in
    line-limit g.S.Source.left g.S.Source.faults g.S.Source.ends (reading c.args.reader.now) (reading c.read_line.new.reader)
    (g.X.Expected.lines c.args.expected.now) c.requires.lawful c.args.line c.read_line.new.text.items c.in_ok-ended.ended c.in-Err.missing
    (read g at.In_ok-ended) (there g at.After-agrees) (rw (c.as_slice.ensures.value, c.in-Err.is) at c.agrees.ensures)
