use Rattle.std.proofs.Common.{◌≡◌, ◌+◌, ℕ, ◌<◌, [], length, slice_index_or, take}
use Rattle.std.specs.Prelude.{All, IsSomeAnd, sum_by}
use Rattle.scr_workers.specs.Boards.{weight_in}
use Rattle.scr_workers.specs.Seats.{IsFreshSeat}
use Rattle.scr_workers.proofs.seats.seat_lanes.Given as goal

abbrev pub invariant-loop-k : goal.invariant-loop-k
invariant-loop-k g l = record {
  of_table : l.first.table_id ≡ l.table.table.shared.table_id;
  weight_is : l.first.me.0.weight + l.k ≡ 64;
  no_claim : l.first.me.0.list ≡ [];
  no_slot : l.first.me.1 ≡ [];
  seats : All (λ lane. IsSomeAnd lane.seat (IsFreshSeat l.table.table.shared.table_id)) (take l.k l.lanes);
  weights : sum_by (λ lane. weight_in lane.seat) (take l.k l.lanes) ≡ l.k;
  own : (i : ℕ) (d : _) → i < length l.initial.lanes
      → (slice_index_or l.lanes i d).own ≡ (slice_index_or l.initial.lanes i d).own;
}
