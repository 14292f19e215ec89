use Rattle.std.proofs.Common.{◌≡◌, ◌+◌, ◌*◌, map, length}
use Rattle.json.specs.Value.{value_view}
use Rattle.scr_wcif.specs.Filling.{filled_round, changed_along}
use Rattle.scr_wcif.proofs.FillLemmas.{changed_member, member_view, texts_now}
use Rattle.scr_wcif.proofs.filling.+filled.Given as goal

abbrev pub decreases-changed_along : goal.decreases-changed_along
decreases-changed_along l = 3 * length l.keys.now

abbrev pub decreases-changed_members : goal.decreases-changed_members
decreases-changed_members l = 3 * length l.keys.now + 2

abbrev pub decreases-each_item : goal.decreases-each_item
decreases-each_item l = 3 * length l.keys.now + 1

abbrev pub invariant-changed_members-loop-name : goal.invariant-changed_members-loop-name
invariant-changed_members-loop-name l =
    map member_view l.changed.items
    ≡ map (changed_member l.key (changed_along (texts_now l.keys) (filled_round l.rounds))) (map member_view l.yielded)

abbrev pub invariant-each_item-loop-item : goal.invariant-each_item-loop-item
invariant-each_item-loop-item l =
    map value_view l.changed.items ≡ map (changed_along (texts_now l.keys) (filled_round l.rounds)) (map value_view l.yielded)
