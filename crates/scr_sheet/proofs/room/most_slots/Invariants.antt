use Rattle.std.proofs.Common.{ℕ, ◌<◌, ◌≤◌, length, slice_index_or}
use Rattle.scr_round.specs.Round.{slots_of}
use Rattle.scr_sheet.proofs.room.most_slots.Given as goal

abbrev pub invariant-loop-round : goal.invariant-loop-round
invariant-loop-round l = (k : ℕ) (d : _) → k < l.round-index → k < length l.rounds → slots_of (slice_index_or l.rounds k d) ≤ l.most
