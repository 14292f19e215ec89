use Rattle.std.proofs.Common.{◌≡◌, ◌≤◌}
use Rattle.std.specs.Vec.{vec_len, vec_capacity}
use Rattle.scr_sheet.proofs.room.unanswered.Given as goal

abbrev pub invariant-loop-slot : goal.invariant-loop-slot
invariant-loop-slot l = record {
  count : vec_len l.answers ≡ l._slot;
  room : l.slots ≤ vec_capacity l.answers;
}
