use Rattle.std.proofs.Common.{◌≡◌, ◌≤◌}
use Rattle.std.specs.Vec.{vec_len, vec_capacity}
use Rattle.scr_sheet.proofs.room.fresh_words.Given as goal

abbrev pub invariant-loop-word : goal.invariant-loop-word
invariant-loop-word l = record {
  made : vec_len l.words ≡ l._word;
  room : l.count ≤ vec_capacity l.words;
}
