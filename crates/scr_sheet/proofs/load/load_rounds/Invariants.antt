use Rattle.std.proofs.Common.{◌≡◌, map}
use Rattle.std.specs.List.{range_with_len}
use Rattle.arrayvec.specs.ArrayVec.{array_vec_len}
use Rattle.scr_sheet.specs.Load.{load_round}
use Rattle.scr_sheet.proofs.load.load_rounds.Given as goal

abbrev pub invariant-loop-k : goal.invariant-loop-k
invariant-loop-k l = record {
  made : l.rounds.items ≡ map (load_round l.number) (range_with_len 0 l.k);
  count : array_vec_len l.rounds ≡ l.k;
}
