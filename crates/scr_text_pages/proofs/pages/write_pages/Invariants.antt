use Rattle.std.proofs.Common.{◌≡◌, ◌≤◌, ◌-◌, take, string_bytes}
use Rattle.scr_text_pages.specs.Slots.{slots_of_group}
use Rattle.scr_text_pages.specs.Adding.{AddsSlots}
use Rattle.scr_text_pages.proofs.pages.write_pages.Given as goal

abbrev pub invariant-pages : goal.invariant-pages
invariant-pages l = record {
  within : l.from ≤ l.slots;
  counted : l.number ≤ l.from;
  begun : l.from ≡ 0 → string_bytes l.text ≡ string_bytes l.fn.text;
  adds : AddsSlots l.competition (take l.from (slots_of_group l.pictures l.group)) (string_bytes l.fn.text) (string_bytes l.text);
}

abbrev pub decreases-pages : goal.decreases-pages
decreases-pages l = l.slots - l.from
