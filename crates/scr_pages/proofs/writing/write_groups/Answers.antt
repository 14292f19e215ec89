use Rattle.std.proofs.Common.{List, ℕ, refl, [], ◌++◌, map, take, length, sym, ◌∙◌, arith, string_bytes, subst}
use Rattle.std.proofs.lemmas.Bool.{eqb-true}
use Rattle.std.proofs.lemmas.Result.{err_from_is_err_and}
use Rattle.scr_outside.specs.Change.{change_of}
use Rattle.scr_outside.proofs.ChangeLemmas.{Gains-nothing, Gains-append, Falters-after, Falters-longer}
use Rattle.scr_layout.specs.Group.{Group}
use Rattle.scr_pages.specs.Shown.{shown_group}
use Rattle.scr_pages.specs.Pages.{AreBegun, ArePages, pages_end}
use Rattle.scr_pages.specs.Writing.{look_of}
use Rattle.scr_pages.proofs.PageLemmas.{some-begun}
use Rattle.scr_pages.proofs.WritingLemmas.{next-pages, written-next, falters-next, wanting-here, ended-pages, in-sheet, no-part, taken-all}
use Rattle.scr_pages.proofs.writing.write_groups.Goals as goal

pub returns-in_err-begin_pages : goal.returns-in_err-begin_pages
returns-in_err-begin_pages g c = λ rounds are.
    let p = err_from_is_err_and c.from_residual.result c.from_residual.ensures.1 in
    let look = look_of c.args.look.now in
    let start = some-begun c.args.look.now.html look c.requires.name in
    let whole = start.0 ++ pages_end look in
    rw (p.1, p.2)
    (0, whole, (start.0, start.1, refl), ([], no-part whole, Gains-nothing))

pub returns-in_err-write_all : goal.returns-in_err-write_all
returns-in_err-write_all g c = λ rounds are.
    let p = err_from_is_err_and c.from_residual-in_err-write_all.result c.from_residual-in_err-write_all.ensures.1 in
    let look = look_of c.args.look.now in
    let bytes = c.as_bytes.result.now in
    let begun = subst (λ (text : List ℕ). AreBegun look [] text) (sym (c.as_bytes.ensures.value ∙ c.as_str.ensures.value)) c.in_ok-begin_pages.ensures in
    rw (p.1, p.2)
    (0, bytes ++ pages_end look, (bytes, begun, refl), Falters-longer {change = change_of g.O.Sink.held g.O.Sink.faults c.args.out.now c.write_all.new.out} (pages_end look) c.in_err-write_all.ensures)

pub shown-requires : goal.shown-requires
shown-requires g c =
    let rounds = c.requires.sheet.0 in
    let w = c.groups.invariant rounds c.requires.sheet.1 in (
      rounds,
      c.requires.sheet.1,
      in-sheet rounds c.args.groups.now w.done c.groups.groups c.next.new.self c.in-Some.group w.all_is c.in-Some.ensures.first c.requires.sheet.2,
    )

pub returns-in_err-group_pages : goal.returns-in_err-group_pages
returns-in_err-group_pages g c = λ rounds are.
    let p = err_from_is_err_and c.from_residual-in_err-group_pages.result c.from_residual-in_err-group_pages.ensures.1 in
    rw (p.1, p.2)
    (wanting-here (look_of c.args.look.now) rounds c.args.groups.now c.groups.groups c.groups.place c.args.count _ (c.groups.invariant rounds are) (omega arith))

pub returns-in_err-write_all-2 : goal.returns-in_err-write_all-2
returns-in_err-write_all-2 g c = λ rounds are.
    let p = err_from_is_err_and c.from_residual-in_err-write_all-2.result c.from_residual-in_err-write_all-2.ensures.1 in
    let w = c.groups.invariant rounds are in
    let look = look_of c.args.look.now in
    let all = c.args.groups.now in
    rw (p.1, p.2)
    (falters-next look rounds all c.groups.groups c.next.new.self c.in-Some.group c.groups.place _ w c.args.count _ c.as_bytes-in-groups.result.now
    c.in-Some.ensures.first (omega arith)
    (next-pages look rounds all c.groups.groups c.next.new.self c.in-Some.group c.groups.place _ w c.shown.result _ (string_bytes c.group_pages.new.page) c.as_bytes-in-groups.result.now
    (c.shown.ensures rounds are) (λ b. eqb-true c.groups.place 0 b) c.in_ok-group_pages.ensures (c.as_bytes-in-groups.ensures.value ∙ c.as_str-in-groups.ensures.value))
    (Falters-after w.gains c.in_err-write_all-2.ensures))

pub groups-preserved : goal.groups-preserved
groups-preserved g c = λ rounds are.
    let w = c.groups.invariant rounds are in
    let look = look_of c.args.look.now in
    let all = c.args.groups.now in
    written-next look rounds all c.groups.groups c.next.new.self c.in-Some.group c.groups.place _ w _ c.as_bytes-in-groups.result.now
    c.in-Some.ensures.first
    (next-pages look rounds all c.groups.groups c.next.new.self c.in-Some.group c.groups.place _ w c.shown.result _ (string_bytes c.group_pages.new.page) c.as_bytes-in-groups.result.now
    (c.shown.ensures rounds are) (λ b. eqb-true c.groups.place 0 b) c.in_ok-group_pages.ensures (c.as_bytes-in-groups.ensures.value ∙ c.as_str-in-groups.ensures.value))
    (Gains-append w.gains c.in_ok-write_all-2.ensures)

pub returns-in_err-end_pages : goal.returns-in_err-end_pages
returns-in_err-end_pages g c = λ rounds are.
    let p = err_from_is_err_and c.from_residual-in_err-end_pages.result c.from_residual-in_err-end_pages.ensures.1 in
    rw (p.1, p.2)
    (wanting-here (look_of c.args.look.now) rounds c.args.groups.now c.groups.groups c.groups.place c.args.count _ (c.groups.invariant rounds are) (omega arith))

pub returns-in_err-write_all-3 : goal.returns-in_err-write_all-3
returns-in_err-write_all-3 g c = λ rounds are.
    let p = err_from_is_err_and c.from_residual-in_err-write_all-3.result c.from_residual-in_err-write_all-3.ensures.1 in
    let w = c.groups.invariant rounds are in
    let look = look_of c.args.look.now in
    let bytes = c.as_bytes-2.result.now in
    let shown = map (shown_group rounds) (take c.args.count c.args.groups.now) in
    rw (p.1, p.2) (
      length shown,
      w.text ++ bytes,
      subst (λ (gs : List Group). ArePages look gs (w.text ++ bytes)) (sym (taken-all shown))
          (ended-pages look rounds c.args.groups.now c.groups.groups c.groups.place c.args.count _ (string_bytes c.end_pages.new.page) bytes w
          (omega arith) c.in_ok-end_pages.ensures (c.as_bytes-2.ensures.value ∙ c.as_str-2.ensures.value)),
      Falters-after w.gains c.in_err-write_all-3.ensures,
    )

pub returns : goal.returns
returns g c = λ rounds are.
    let w = c.groups.invariant rounds are in
    let bytes = c.as_bytes-2.result.now in (
      w.text ++ bytes,
      ended-pages (look_of c.args.look.now) rounds c.args.groups.now c.groups.groups c.groups.place c.args.count _ (string_bytes c.end_pages.new.page) bytes w
          (omega arith) c.in_ok-end_pages.ensures (c.as_bytes-2.ensures.value ∙ c.as_str-2.ensures.value),
      Gains-append w.gains c.in_ok-write_all-3.ensures,
    )
