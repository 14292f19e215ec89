use Rattle.std.proofs.Common.{◌≡◌, ◌≤◌, vec_len, vec_capacity}
use Rattle.std.specs.Prelude.{All}
use Rattle.scr_workers.specs.Boards.{HasRoom}
use Rattle.scr_workers.proofs.lane.empty_lanes.Given as goal

abbrev pub invariant-loop-worker : goal.invariant-loop-worker
invariant-loop-worker g l = record {
  count : vec_len l.lanes ≡ l._worker;
  all : All (HasRoom l.slots) l.lanes.items;
  room : l.workers ≤ vec_capacity l.lanes;
}
