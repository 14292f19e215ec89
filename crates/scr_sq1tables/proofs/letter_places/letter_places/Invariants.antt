use Rattle.std.proofs.Common.{◌≡◌, ℕ, ◌<◌, [], length}
use Rattle.std.specs.Prelude.{slice_index_or}
use Rattle.scr_sq1tables.specs.Letters.{letter_of}
use Rattle.scr_sq1tables.specs.Placed.{pieces}
use Rattle.scr_sq1tables.specs.Tables.{units_after}
use Rattle.scr_sq1tables.proofs.letter_places.letter_places.Given as goal

abbrev pub invariant-loop-number : goal.invariant-loop-number
invariant-loop-number l = record {
  size : length l.places ≡ 32;
  filled : (k : ℕ) → k < l.number → slice_index_or l.places k [] ≡ pieces l.part (units_after (letter_of l.letters) k);
}
