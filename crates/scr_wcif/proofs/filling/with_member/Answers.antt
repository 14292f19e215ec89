use Rattle.std.proofs.Common.{◌≡◌, Some, None, ap, sym, ◌∙◌, refl}
use Rattle.std.specs.Prelude.{position}
use Rattle.std.specs.Vec.{with_item}
use Rattle.std.proofs.lemmas.List.Quantifiers.{position-Some}
use Rattle.json.specs.Json.{object}
use Rattle.json.specs.Value.{members_view}
use Rattle.json.proofs.Trees.{view-Object}
use Rattle.scr_wcif.proofs.FillLemmas.{has_key, replaced, appended}
use Rattle.scr_wcif.proofs.filling.with_member.Goals as goal

pub returns-in-Some : goal.returns-in-Some
returns-in-Some c =
    let key = c.args.key.now in
    let members = c.args.members.items in
    let place = c.in-Some.place in
    let old = c.index_mut.result.now in
    let is : position (has_key key) members ≡ Some place = ap (position (has_key key)) (sym c.deref.ensures.value) ∙ sym c.in-Some.ensures in
    let found = position-Some (has_key key) members place old is in
    view-Object (with_item c.args.members place (old.0, c.args.new))
    ∙ ap object (replaced key c.args.new old members place found.0 found.1 found.2 c.index_mut.ensures.value)

pub returns-in_ok-add-in-None : goal.returns-in_ok-add-in-None
returns-in_ok-add-in-None c =
    let key = c.args.key.now in
    let members = c.args.members.items in
    let is : position (has_key key) members ≡ None = ap (position (has_key key)) (sym c.deref.ensures.value) ∙ sym c.in-None.ensures in
    view-Object c.add.new.items ∙ ap (λ ms. object (members_view ms)) c.in_ok-add-in-None.ensures
    ∙ ap object (appended key c.args.new c.args.key members is refl)
