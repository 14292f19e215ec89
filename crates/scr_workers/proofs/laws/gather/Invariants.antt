use Rattle.std.proofs.Common.{◌≡◌, ℕ, ◌<◌, ◌≤◌, [], length, slice_index_or, map, take, sum_by, vec_capacity, vec_len}
use Rattle.scr_workers.specs.Answered.{HasAnswer}
use Rattle.scr_workers.specs.Gather.{times}
use Rattle.scr_workers.specs.Work.{slot_of}
use Rattle.scr_workers.proofs.Places.{ArePlaced}
use Rattle.scr_workers.proofs.laws.gather.Given as goal

abbrev pub invariant-loop-lane : goal.invariant-loop-lane
invariant-loop-lane g l = record {
  seats : (i : ℕ) (d : _) → i < length l.lanes
      → (slice_index_or l.lanes i d).seat ≡ (slice_index_or l.initial.lanes i d).seat;
  spent : (i : ℕ) (d : _) → i < l.lane-index → (slice_index_or l.lanes i d).own.items ≡ [];
  others : (i : ℕ) (d : _) → l.lane-index ≤ i → i < length l.lanes
      → (slice_index_or l.lanes i d).own ≡ (slice_index_or l.initial.lanes i d).own;
  room : (i : ℕ) (d : _) → i < length l.lanes
      → vec_capacity (slice_index_or l.lanes i d).own ≡ vec_capacity (slice_index_or l.initial.lanes i d).own;
  placed : (k : ℕ) → 0 < sum_by (λ lane. times k (map slot_of lane.own.items)) (take l.lane-index l.initial.lanes)
      → HasAnswer (g.J.Jobs.is_answer l.jobs) l.out k;
}

abbrev pub invariant-loop-slot : goal.invariant-loop-slot
invariant-loop-slot g l =
    (l.lane.seat ≡ l.initial.lane.seat)
    × ArePlaced (g.J.Jobs.is_answer l.jobs) l.initial.lane.own.items l.initial.out l.lane.own.items l.out
    × (vec_capacity l.lane.own ≡ vec_capacity l.initial.lane.own)

abbrev pub decreases-loop-slot : goal.decreases-loop-slot
decreases-loop-slot g l = vec_len l.lane.own
