use Rattle.std.proofs.Common.{◌∙◌, sym, ap}
use Rattle.std.proofs.lemmas.Bool.{false≢true}
use Rattle.scr_notation.specs.Event.{puzzle_of}
use Rattle.scr_pages.specs.Slots.{IsNear}
use Rattle.scr_pages.proofs.SlotLemmas.{passes-one, passes-first, lines-left, none-other}
use Rattle.scr_pages.proofs.survey.look.Goals as goal

pub returns-in-Some-near_line-clause-fault : goal.returns-in-Some-near_line-clause-fault
returns-in-Some-near_line-clause-fault c =
    passes-first IsNear c.args.groups.now c.groups.groups c.next.new.self c.in-Some.group c.in-Some-near_line.line
    c.groups.invariant.passed c.in-Some.ensures.first c.in-Some-near_line.ensures

pub groups-preserved-then-is_square_1 : goal.groups-preserved-then-is_square_1
groups-preserved-then-is_square_1 c =
    let given = c.in-Some.ensures.first in
    record {
      passed = passes-one IsNear c.args.groups.now c.groups.groups c.next.new.self c.in-Some.group c.groups.invariant.passed given c.in_default-near_line.ensures;
      lines = lines-left c.groups.groups c.next.new.self c.in-Some.group given c.groups.invariant.lines;
    }

pub groups-preserved : goal.groups-preserved
groups-preserved c =
    let given = c.in-Some.ensures.first in
    let other = none-other IsNear c.in-Some.group (λ slot is. is.puzzle)
    (λ e. false≢true (sym c.if-is_square_1.false ∙ c.is_square_1.ensures.1 (ap puzzle_of c.event.ensures.value ∙ e))) in
    record {
      passed = passes-one IsNear c.args.groups.now c.groups.groups c.next.new.self c.in-Some.group c.groups.invariant.passed given other;
      lines = lines-left c.groups.groups c.next.new.self c.in-Some.group given c.groups.invariant.lines;
    }
