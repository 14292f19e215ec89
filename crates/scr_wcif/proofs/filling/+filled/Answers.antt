use Rattle.std.proofs.Common.{◌≡◌, ◌-◌, ℕ, Bool, true, false, cond, List, [], map, take, drop, length, get_or, sym, ap, ◌∙◌, arith, Bor, Global}
use Rattle.std.specs.Str.{bytes_eq}
use Rattle.std.proofs.lemmas.Iterator.Adapters.{YieldsList-from_vec}
use Rattle.std.proofs.lemmas.Iterator.Consumers.{YieldsList-end}
use Rattle.json.specs.declared.value.Value.{Value}
use Rattle.json.specs.Json.{Json, array, object}
use Rattle.json.specs.Value.{value_view, members_view, items_of, members_of}
use Rattle.json.proofs.Trees.{view-Array, view-Object}
use Rattle.scr_wcif.specs.Filling.{filled_round, each_item, changed_along, changed_members}
use Rattle.scr_wcif.proofs.FillLemmas.{ok-weaker, along-object, texts_now, member_view, changed_member, changed-step, changed_members-of, changed_items-of, map-same}
use Rattle.scr_wcif.proofs.filling.+filled.Goals as goal
use Rattle.scr_wcif.proofs.filling.+filled.Goals.{changed_members-then-eq+in_ok-value, changed_members-else-eq}

pub changed_along-returns-in-Object : goal.changed_along-returns-in-Object
changed_along-returns-in-Object t c =
    let keys = c.args.keys.now in
    let f = filled_round c.args.rounds.now in
    let none : Bor (List ℕ) = record { ref_ptr = (0, 0); now = [] } in
    let ms = members_view c.in-Object.members.items in
    let step = along-object keys none f (value_view c.args.value) ms c.in-len1-up.len_at_least (ap value_view c.in-Object.is ∙ view-Object c.in-Object.members) in
    ok-weaker
    (λ (new : Value Global). value_view new ≡ object (changed_members (get_or keys 0 none).now (changed_along (texts_now (take (length keys - 1) (drop 1 keys))) f) ms))
    (λ (new : Value Global). value_view new ≡ changed_along (texts_now keys) f (value_view c.args.value)) c.changed_members.result
    (λ new is. is ∙ step) c.changed_members.ensures

pub changed_members-loop-name-preserved : goal.changed_members-loop-name-preserved
changed_members-loop-name-preserved t c =
    let key = c.args.key.now in
    let f = changed_along (texts_now c.args.keys.now) (filled_round c.args.rounds.now) in
    let name = c.in-Some.name in
    let old = value_view c.in-Some.value in
    let chosen : (b : Bool) → Bor (List ℕ) × Json = λ b. (name, cond b (each_item f old) old) in
    let grown = changed-step member_view member_view (changed_member key f) c.loop-name.changed.items c.add.new.items.items (name, c.if-eq.value)
    c.loop-name.yielded (name, c.in-Some.value) c.in_ok-add.ensures in
    elim c.if-eq.branch [
      | changed_members-then-eq+in_ok-value w ↦
          let same : bytes_eq name.now key ≡ true = grind arith in
          grown (ap (λ j. (name, j)) (ap value_view w.value-is ∙ w.in_ok-value.ensures) ∙ ap chosen (sym same)) c.loop-name.invariant
      | changed_members-else-eq w ↦
          let other : bytes_eq name.now key ≡ false = grind arith in
          grown (ap (λ j. (name, j)) (ap value_view w.value-is) ∙ ap chosen (sym other)) c.loop-name.invariant
    ]

pub changed_members-returns : goal.changed_members-returns
changed_members-returns t c =
    let key = c.args.key.now in
    let f = changed_along (texts_now c.args.keys.now) (filled_round c.args.rounds.now) in
    let members = c.args.members.items in
    let gives = c.into_iter-name-iterator.ensures.into_iter_gives in
    let seen = YieldsList-end (YieldsList-from_vec {s = c.into_iter-name-iterator.result} members gives.0 (gives.1 ∙ c.args.members.ok.0))
    c.loop-name.yielded c.loop-name.name-iterator c.loop-name.yielded_by c.next.result c.next.new.self c.in-None.is c.next.ensures.steps in
    view-Object c.loop-name.changed ∙ ap (λ ms. object (members_of ms)) c.loop-name.invariant
    ∙ ap (λ ms. object (members_of (map (changed_member key f) (map member_view ms)))) (sym (map-same c.loop-name.yielded) ∙ seen.0)
    ∙ ap object (sym (changed_members-of key f (map member_view members)))

pub each_item-returns-in-None : goal.each_item-returns-in-None
each_item-returns-in-None t c =
    let f = changed_along (texts_now c.args.keys.now) (filled_round c.args.rounds.now) in
    let items = c.in-Array.items.items in
    let gives = c.into_iter-item-iterator.ensures.into_iter_gives in
    let seen = YieldsList-end (YieldsList-from_vec {s = c.into_iter-item-iterator.result} items gives.0 (gives.1 ∙ c.in-Array.items.ok.0))
    c.loop-item.yielded c.loop-item.item-iterator c.loop-item.yielded_by c.next.result c.next.new.self c.in-None.is c.next.ensures.steps in
    view-Array c.loop-item.changed ∙ ap (λ js. array (items_of js)) c.loop-item.invariant
    ∙ ap (λ vs. array (items_of (map f (map value_view vs)))) (sym (map-same c.loop-item.yielded) ∙ seen.0)
    ∙ ap array (sym (changed_items-of f (map value_view items)))
    ∙ ap (each_item f) (sym (ap value_view c.in-Array.is ∙ view-Array c.in-Array.items))
