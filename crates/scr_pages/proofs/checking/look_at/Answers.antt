use Rattle.std.proofs.Common.{List, ◌∙◌, ap, inr, subst}
use Rattle.std.proofs.lemmas.Result.{IfErr-weaker, on_ok_weaker}
use Rattle.scr_read.specs.Groups.{GroupOf, groups_of}
use Rattle.scr_pages.specs.Slots.{slots_of, IsNear}
use Rattle.scr_pages.specs.Refusals.{NoneIs}
use Rattle.scr_pages.specs.Passes.{FailsLook}
use Rattle.scr_pages.specs.Checked.{RefusesLook}
use Rattle.scr_pages.proofs.CheckLemmas.{sheet-few}
use Rattle.scr_pages.proofs.checking.look_at.Goals as goal

pub look-requires : goal.look-requires
look-requires c =
    let sheet = c.in_ok-groups.ensures.groups in
    sheet-few c.args.bytes.now c.in_ok-groups.groups sheet.0 sheet.1 sheet.2

pub returns-clause-far : goal.returns-clause-far
returns-clause-far c =
    let sheet = c.in_ok-groups.ensures.groups in
    on_ok_weaker c.look.result
    (λ none rounds is.
    subst (λ (gs : List GroupOf). NoneIs IsNear (slots_of gs)) (sheet.2 ∙ ap groups_of (c.in_ok-groups.ensures.one sheet.0 rounds sheet.1 is)) none)
    c.look.ensures.far

pub returns-clause-err : goal.returns-clause-err
returns-clause-err c =
    let sheet = c.in_ok-groups.ensures.groups in
    IfErr-weaker c.look.result (FailsLook c.in_ok-groups.groups) (RefusesLook c.args.bytes.now)
    (λ why fails. inr (λ rounds is.
    subst (λ (gs : List GroupOf). FailsLook gs why) (sheet.2 ∙ ap groups_of (c.in_ok-groups.ensures.one sheet.0 rounds sheet.1 is)) fails))
    c.look.ensures.fault
