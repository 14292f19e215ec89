use Rattle.std.proofs.Common.{◌≡◌, ◌*◌, ◌≤◌, take}
use Rattle.std.specs.Prelude.{sum_by}
use Rattle.scr_round.specs.Round.{slots_of}
use Rattle.scr_sheet.proofs.load.slots_of_all.Given as goal

abbrev pub invariant-loop-round : goal.invariant-loop-round
invariant-loop-round l = record {
  counted : l.count ≡ sum_by slots_of (take l.round-index l.rounds);
  few : l.count ≤ l.round-index * 182;
}
