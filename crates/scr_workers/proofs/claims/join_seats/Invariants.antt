use Rattle.std.proofs.Common.{◌≡◌, ℕ, [], take, sum_by}
use Rattle.scr_workers.specs.Boards.{weight_in}
use Rattle.scr_workers.specs.Gather.{without_seat, list_in}
use Rattle.scr_workers.specs.Rule.{weigh}
use Rattle.scr_workers.proofs.Steps.{first_done}
use Rattle.scr_workers.proofs.claims.join_seats.Given as goal

abbrev pub invariant-loop-k : goal.invariant-loop-k
invariant-loop-k g l = record {
  of_table : l.seat.table_id ≡ l.table.table.shared.table_id;
  no_slot : l.seat.me.1 ≡ [];
  weight : l.seat.me.0.weight ≡ sum_by (λ lane. weight_in lane.seat) (take l.k l.fn.lanes);
  list : (h : ℕ → ℕ) → weigh h l.seat.me.0.list ≡ sum_by (λ lane. weigh h (list_in lane.seat)) (take l.k l.fn.lanes);
  lanes : l.lanes ≡ first_done without_seat l.k l.fn.lanes;
}
