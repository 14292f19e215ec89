use Rattle.std.proofs.Common.{◌≡◌, ◌-◌, ◌<◌, ◌≤◌, map, vec_len, vec_capacity}
use Rattle.std.specs.Prelude.{All}
use Rattle.scr_workers.specs.Work.{slot_of, IsAnswerOfSlot, IsSameSeat}
use Rattle.scr_workers.proofs.laws.work.Given as goal

abbrev pub invariant-loop-seat : goal.invariant-loop-seat
invariant-loop-seat g l = record {
  same : IsSameSeat l.fn.seat l.seat;
  below : All (λ number. number < l.slots) l.seat.me.0.list;
  own_slots : map slot_of l.own.items ≡ l.seat.me.0.list;
  answers : All (IsAnswerOfSlot (g.J.Jobs.is_answer l.jobs)) l.own.items;
  room : l.slots ≤ vec_capacity l.own;
  kept : vec_capacity l.own ≡ vec_capacity l.initial.own;
}

abbrev pub decreases-loop-seat : goal.decreases-loop-seat
decreases-loop-seat g l = l.slots - vec_len l.own
