use Rattle.std.proofs.Common.{◌∙◌, sym, ap, arith, List, length}
use Rattle.scr_pages.specs.declared.marks.RoundMark.{RoundMark}
use Rattle.scr_pages.specs.Slots.{IsBarred}
use Rattle.scr_pages.specs.Marked.{with_groups}
use Rattle.scr_pages.proofs.SlotLemmas.{passes-one, passes-first, lines-left}
use Rattle.scr_pages.proofs.survey.surveyed.Goals as goal

pub returns-in-Some-barred_line-clause-fault : goal.returns-in-Some-barred_line-clause-fault
returns-in-Some-barred_line-clause-fault c =
    passes-first IsBarred c.args.groups.now c.groups.groups c.next.new.self c.in-Some.group c.in-Some-barred_line.line
    c.groups.invariant.passed c.in-Some.ensures.first c.in-Some-barred_line.ensures

pub groups-preserved : goal.groups-preserved
groups-preserved c =
    let given = c.in-Some.ensures.first in
    record {
      passed = passes-one IsBarred c.args.groups.now c.groups.groups c.next.new.self c.in-Some.group c.groups.invariant.passed given c.in_default-barred_line.ensures;
      marked =
          ap (λ (marks : List RoundMark). with_groups marks c.next.new.self) c.in_ok-mark_group.ensures
          ∙ sym (ap (with_groups c.groups.marks.items) given) ∙ c.groups.invariant.marked;
      counted = omega (arith, c.groups.invariant.counted, ap length given);
      lines = lines-left c.groups.groups c.next.new.self c.in-Some.group given c.groups.invariant.lines;
    }
