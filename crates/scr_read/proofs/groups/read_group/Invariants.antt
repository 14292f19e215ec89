use Rattle.scr_read.specs.Left.{IsGroupNext}
use Rattle.scr_read.proofs.SlotLemmas.{HasSlots}
use Rattle.scr_read.proofs.groups.read_group.Given as goal

abbrev pub invariant-loop-slot : goal.invariant-loop-slot
invariant-loop-slot l = (next : IsGroupNext l.head.event l.fn.pieces.pieces) → HasSlots l.head.event l.fn.pieces next l.slot l.pieces l.scrambles
