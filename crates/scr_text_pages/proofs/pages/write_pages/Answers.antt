use Rattle.std.proofs.Common.{◌≡◌, ◌≤◌, ◌+◌, ℕ, List, ◌++◌, take, refl, ap, sym, ◌∙◌, subst, arith, string_bytes}
use Rattle.scr_notation.specs.Event.{per_group_of}
use Rattle.scr_text_pages.specs.Reading.{ReadSlot}
use Rattle.scr_text_pages.specs.Slots.{slots_of_group}
use Rattle.scr_text_pages.specs.Adding.{AddsSlots, slots_between}
use Rattle.scr_text_pages.proofs.AddLemmas.{adds-no_pages, adds-first, adds-pages}
use Rattle.scr_text_pages.proofs.SlotLemmas.{before-more, all-taken}
use Rattle.scr_text_pages.proofs.pages.write_pages.Goals as goal
use Rattle.scr_text_pages.proofs.pages.write_pages.Goals.{then-from-gt0+in_ok-push_str, else-from-gt0}

pub pages-init : goal.pages-init
pages-init c = record {
  within = omega arith;
  counted = omega arith;
  begun = λ none. refl;
  adds = adds-no_pages c.args.competition.now (string_bytes c.args.text.now);
}

pub pages-preserved : goal.pages-preserved
pages-preserved c =
    let group = c.args.group.now in
    let name = c.args.competition.now in
    let from = c.pages.from in
    let end = c.filled_page-filled.result.end in
    let more = c.filled_page-filled.ensures.more in
    let le : from ≤ end = omega (arith, more) in
    let slots = slots_of_group c.args.pictures group in
    let old = string_bytes c.args.text.now in
    let new = string_bytes c.write_page.new.text in
    let both : AddsSlots name (take from slots ++ slots_between c.args.pictures from end group) old new = elim c.if-from-gt0.branch [
      | then-from-gt0+in_ok-push_str w ↦
          adds-pages name (take from slots) (slots_between c.args.pictures from end group) old (string_bytes c.pages.text) (string_bytes c.if-from-gt0.text) new
          c.pages.invariant.adds (ap (λ text. string_bytes text) w.text-is ∙ w.in_ok-push_str.ensures.bytes) c.in_ok-write_page.ensures
      | else-from-gt0 w ↦
          let none : from ≡ 0 = omega (arith, w.if-from-gt0.false) in
          subst (λ (n : ℕ). AddsSlots name (take n slots ++ slots_between c.args.pictures from end group) old new) (sym none)
          (adds-first name (slots_between c.args.pictures from end group) old (string_bytes c.if-from-gt0.text) new
          (ap (λ text. string_bytes text) w.text-is ∙ c.pages.invariant.begun none) c.in_ok-write_page.ensures)
    ] in
    record {
      within = omega (arith, c.filled_page-filled.ensures.within, c.slot_count-slots.ensures.value);
      counted = omega (arith, more, c.pages.invariant.counted);
      begun = λ none. absurd (omega (arith, none, more));
      adds = subst (λ (ss : List ReadSlot). AddsSlots name ss old new) (before-more c.args.pictures from end group le) both;
    }

pub returns : goal.returns
returns c =
    let group = c.args.group.now in
    let name = c.args.competition.now in
    let enough : per_group_of group.event + 2 ≤ c.pages.from = omega (arith, c.slot_count-slots.ensures.value, c.pages-test.false) in
    subst (λ (ss : List ReadSlot). AddsSlots name ss (string_bytes c.args.text.now) (string_bytes c.pages.text)) (all-taken c.args.pictures c.pages.from group enough)
    c.pages.invariant.adds
