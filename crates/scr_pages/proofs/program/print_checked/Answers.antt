use Rattle.std.proofs.Common.{List, ◌∙◌, subst, inl}
use Rattle.scr_outside.specs.Change.{change_of}
use Rattle.scr_layout.specs.Group.{Group}
use Rattle.scr_layout.specs.Name.{fitting}
use Rattle.scr_pages.specs.Words.{asked_of}
use Rattle.scr_pages.specs.Asked.{has_pictures}
use Rattle.scr_pages.specs.Pages.{Look}
use Rattle.scr_pages.specs.Shown.{chosen, shown_groups}
use Rattle.scr_pages.specs.Writing.{WritesPages}
use Rattle.scr_pages.proofs.CheckLemmas.{wanted-left, wanted-few, wanted-in-sheet, wanted-shown, same-look, look_with}
use Rattle.scr_pages.proofs.program.print_checked.Goals as goal

pub write_groups-requires-clause-count : goal.write_groups-requires-clause-count
write_groups-requires-clause-count g c =
    let is = c.requires.checked in
    let sheet = c.in_ok-groups.ensures.groups in
    let same = c.sheet_groups.ensures.one sheet.0 is.surveyed.rounds sheet.1 is.surveyed.sheet in
    wanted-few (asked_of c.args.asked.now) c.args.bytes.now c.args.checked.now is c.skip.new.groups
    (wanted-left (asked_of c.args.asked.now) c.args.bytes.now c.args.checked.now is sheet.0 c.in_ok-groups.groups c.skip.new.groups same sheet.2 c.skip.ensures)

pub write_groups-requires-clause-sheet : goal.write_groups-requires-clause-sheet
write_groups-requires-clause-sheet g c =
    let is = c.requires.checked in
    let sheet = c.in_ok-groups.ensures.groups in
    let same = c.sheet_groups.ensures.one sheet.0 is.surveyed.rounds sheet.1 is.surveyed.sheet in (
      is.surveyed.rounds,
      c.deref.ensures.value ∙ is.surveyed.marks,
      wanted-in-sheet (asked_of c.args.asked.now) c.args.bytes.now c.args.checked.now is c.skip.new.groups
          (wanted-left (asked_of c.args.asked.now) c.args.bytes.now c.args.checked.now is sheet.0 c.in_ok-groups.groups c.skip.new.groups same sheet.2 c.skip.ensures),
    )

pub returns : goal.returns
returns g c =
    let is = c.requires.checked in
    let sheet = c.in_ok-groups.ensures.groups in
    let same = c.sheet_groups.ensures.one sheet.0 is.surveyed.rounds sheet.1 is.surveyed.sheet in
    let asked = asked_of c.args.asked.now in
    let rounds = is.surveyed.rounds in
    let name = c.as_str.result.now in
    let left = wanted-left asked c.args.bytes.now c.args.checked.now is sheet.0 c.in_ok-groups.groups c.skip.new.groups same sheet.2 c.skip.ensures in
    let change = change_of g.O.Sink.held g.O.Sink.faults c.args.out.now c.write_groups.new.out in
    let written = c.write_groups.ensures rounds (c.deref.ensures.value ∙ is.surveyed.marks) in
    inl (record {
      rounds = rounds;
      sheet = is.surveyed.sheet;
      has_pages = is.pages;
      writes =
          subst (λ (look : Look). WritesPages look (chosen asked.group (shown_groups rounds)) change c.write_groups.result)
          (same-look c.args.asked.now.html c.has_pictures.result (has_pictures asked) name (fitting 72 asked.name) c.has_pictures.ensures
          (c.as_str.ensures.value ∙ c.in_ok-name.ensures.value))
          (subst (λ (gs : List Group). WritesPages (look_with c.args.asked.now.html c.has_pictures.result name) gs change c.write_groups.result)
          (wanted-shown asked c.args.bytes.now c.args.checked.now is c.skip.new.groups left) written);
    })
