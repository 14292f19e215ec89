use Rattle.std.proofs.Common.{ap, sym, ◌∙◌}
use Rattle.std.specs.Prelude.{Some}
use Rattle.scr_round.specs.Round.{Slot}
use Rattle.scr_sheet.proofs.sheet_lines.line_agrees.Goals as goal

pub returns-in-Slot : goal.returns-in-Slot
returns-in-Slot c = record {
  own = Slot c.as_str-in-Slot.result.now c.in-Slot.slot;
  there = c.in-Slot.ensures.value ∙ sym (ap (λ text. Some (Slot text c.in-Slot.slot)) c.as_str-in-Slot.ensures.value);
  answered = c.slot_line_agrees.ensures;
}
