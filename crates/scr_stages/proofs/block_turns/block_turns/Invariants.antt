use Rattle.std.proofs.Common.{◌≡◌, length, map, take}
use Rattle.scr_orbit.specs.PlaceTurns.{made_by}
use Rattle.scr_stages.specs.Tables.{block_turns}
use Rattle.scr_stages.proofs.block_turns.block_turns.Given as goal

abbrev pub invariant-loop-at : goal.invariant-loop-at
invariant-loop-at g l = record {
  long : length l.out ≡ length l.numbers;
  turns : map made_by (take l.at l.out) ≡ block_turns l.block (map made_by l.turns) (take l.at l.numbers);
}
