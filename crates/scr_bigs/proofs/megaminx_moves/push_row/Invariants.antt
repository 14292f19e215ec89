use Rattle.std.proofs.Common.{◌≡◌, ◌+◌, ◌/◌, ◌^◌, ◌++◌, length}
use Rattle.scr_bigs.proofs.BitLaws.{bit_turn}
use Rattle.scr_bigs.proofs.Listed.{listed}
use Rattle.scr_bigs.proofs.megaminx_moves.push_row.Given as goal

abbrev pub invariant-loop-place : goal.invariant-loop-place
invariant-loop-place l = record {
  event : l.scramble.event ≡ l.initial.scramble.event;
  count : length l.scramble.turns ≡ length l.initial.scramble.turns + l.place;
  turns : l.scramble.turns ≡ l.initial.scramble.turns ++ listed (bit_turn l.bits) l.place;
  rest : l.rest ≡ l.bits / 2 ^ l.place;
}
