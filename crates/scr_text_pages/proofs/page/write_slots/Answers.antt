use Rattle.std.proofs.Common.{List, sym, subst, string_bytes, take, drop, arith, ◌≤◌}
use Rattle.scr_text_pages.specs.Reading.{ReadSlot}
use Rattle.scr_text_pages.specs.Slots.{slots_of_group}
use Rattle.scr_text_pages.specs.Adding.{AddsLines, slots_between, slots_read}
use Rattle.scr_text_pages.proofs.AddLemmas.{adds-slots, adds-no_slots}
use Rattle.scr_text_pages.proofs.SlotLemmas.{between-none, between-more}
use Rattle.scr_text_pages.proofs.page.write_slots.Goals as goal

pub loop-place-init : goal.loop-place-init
loop-place-init c =
    let text = string_bytes c.args.text.now in
    subst (λ (slots : List ReadSlot). AddsLines (slots_read slots) text text) (sym (between-none c.args.spacing.pictures c.args.from c.args.group.now)) (adds-no_slots text)

pub loop-place-preserved : goal.loop-place-preserved
loop-place-preserved c =
    let group = c.args.group.now in
    let le : c.args.from ≤ c.loop-place.place = omega arith in
    subst (λ (slots : List ReadSlot). AddsLines (slots_read slots) (string_bytes c.args.text.now) (string_bytes c.write_slot.new.text))
    (between-more c.args.spacing.pictures c.args.from c.loop-place.place group le)
    (adds-slots (slots_between c.args.spacing.pictures c.args.from c.loop-place.place group) (take 1 (drop c.loop-place.place (slots_of_group c.args.spacing.pictures group)))
    (string_bytes c.args.text.now) (string_bytes c.loop-place.text) (string_bytes c.write_slot.new.text) c.loop-place.invariant c.in_ok-write_slot.ensures)
