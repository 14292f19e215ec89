use Rattle.std.proofs.Common.{◌≡◌, ◌*◌, length}
use Rattle.std.specs.List.{flat_map, range_with_len}
use Rattle.scr_notation.specs.declared.event.Event.TheVariants.{Minx}
use Rattle.scr_bigs.specs.Megaminx.{bits_of, row_turns}
use Rattle.scr_bigs.proofs.megaminx_moves.megaminx.Given as goal

abbrev pub invariant-loop-row : goal.invariant-loop-row
invariant-loop-row g l = record {
  event : l.scramble.event ≡ Minx;
  count : length l.scramble.turns ≡ 11 * l.row;
  turns : l.scramble.turns ≡ flat_map (row_turns (bits_of l.number)) (range_with_len 0 l.row);
}
