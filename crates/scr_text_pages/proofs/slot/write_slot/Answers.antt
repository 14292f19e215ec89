use Rattle.std.proofs.Common.{◌≡◌, ◌<◌, Some, slice_get, List, [], ◌∷◌, map, length, get_or, ap, sym, ◌∙◌, subst, arith, string_bytes}
use Rattle.scr_notation.specs.declared.event.Event.{Event}
use Rattle.scr_notation.specs.Spelling.{spelling}
use Rattle.scr_notation.specs.Written.{Written}
use Rattle.scr_layout.specs.Texts.{labels_of}
use Rattle.scr_text_pages.specs.Reading.{ReadSlot}
use Rattle.scr_text_pages.specs.Nets.{nets}
use Rattle.scr_text_pages.specs.Slots.{cut_text_of, slot_words}
use Rattle.scr_text_pages.specs.Adding.{AddsLines, slots_read}
use Rattle.scr_text_pages.proofs.AddLemmas.{adds-cut, adds-words}
use Rattle.scr_text_pages.proofs.SlotLemmas.{is-label, one-slot}
use Rattle.scr_text_pages.proofs.slot.write_slot.Goals as goal

pub write_rows-requires : goal.write_rows-requires
write_rows-requires c = is-label c.event.result c.args.place c.label-label.result.now c.label-label.ensures.value

pub returns : goal.returns
returns c =
    let group = c.args.group.now in
    let place = c.args.place in
    let label = c.label-label.result.now in
    let scramble = c.index-scrambles-place.result in
    let t0 = string_bytes c.args.text.now in
    let t1 = string_bytes c.write_cut.new.text in
    let t2 = string_bytes c.write_empty_lines.new.text in
    let t3 = string_bytes c.write_rows.new.text in
    let t4 = string_bytes c.write_behind.new.text in
    let pictures = c.args.spacing.pictures in
    let words = label ∷ map spelling scramble.turns in
    let rows =
    adds-words words (nets pictures scramble) t1 t3 t4 (adds-words [] words t1 t2 t3 c.in_ok-write_empty_lines.ensures c.in_ok-write_rows.ensures)
    c.in_ok-write_behind.ensures in
    let here : slice_get (labels_of group.event) place ≡ Some label =
    sym (ap (λ (e : Event). slice_get (labels_of e) place) c.event.ensures.value) ∙ c.label-label.ensures.value in
    let valid = c.scrambles.ensures.valid in
    let below : place < length group.scrambles = omega (arith, valid.each_slot, c.requires) in
    let at : scramble ≡ get_or group.scrambles place scramble =
    c.index-scrambles-place.is ∙ ap (λ (all : List Written). get_or all place scramble) c.scrambles.ensures.value in
    subst (λ (slots : List ReadSlot). AddsLines (slots_read slots) t0 t4) (sym (one-slot pictures group place label scramble here below at))
    (adds-cut (cut_text_of group) (slot_words pictures label scramble) t0 t1 t4 c.in_ok-write_cut.ensures rows)
