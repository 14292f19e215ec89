use Rattle.std.proofs.Common.{◌≡◌, ℕ, List, ◌<◌, ◌+◌, [], inl, inr, length, map, take, set, slice_index_or, ◌∙◌, ap}
use Rattle.std.proofs.Common.{arith, vec_capacity, length-set, get_or-set_same, get_or-set_other}
use Rattle.std.specs.Prelude.{sum_by}
use Rattle.std.proofs.lemmas.List.Sums.{sum_by_more}
use Rattle.std.proofs.Math.Seq.{take-length}
use Rattle.std.proofs.lemmas.Bool.Decides.{nat_tests}
use Rattle.scr_workers.specs.declared.lane.Lane.{Lane}
use Rattle.scr_workers.specs.Gather.{times, once_below}
use Rattle.scr_workers.specs.Work.{slot_of}
use Rattle.scr_workers.proofs.Places.{ArePlaced-more}
use Rattle.scr_workers.proofs.Steps.{map_same, get_or-any}
use Rattle.scr_workers.proofs.laws.gather.Goals as goal

-- what is so of a lane stays so where one is put in its place of which it is so too
kept_at : {T X : Type 0} (f : Lane T → X) (xs : List (Lane T)) (k i : ℕ) (e d lane : Lane T) → i < length (set xs k lane)
    → f lane ≡ f (slice_index_or xs k e) → f (slice_index_or (set xs k lane) i d) ≡ f (slice_index_or xs i d)
kept_at f xs k i e d lane below same = grind (arith, length-set, get_or-any, get_or-set_same, get_or-set_other)

-- what is so where a lane before this one tells it, and where this one does, is so where one of them all does
placed_next : {T : Type 0} {P : Type 0} (f : Lane T → ℕ) (xs ys : List (Lane T)) (k : ℕ) (d : Lane T) → k < length xs
    → 0 < sum_by f (take (k + 1) xs) → f (slice_index_or ys k d) ≡ f (slice_index_or xs k d)
    → (0 < f (slice_index_or ys k d) → P) → (0 < sum_by f (take k xs) → P) → P
placed_next f xs ys k d below some same here before = grind (arith, sum_by_more, nat_tests)

-- whether the place had an answer or none
pub loop-slot-preserved-in-Some : goal.loop-slot-preserved-in-Some
loop-slot-preserved-in-Some g c = (
  c.loop-slot.invariant.0,
  ArePlaced-more _ _ _ _ _ _ c.in-Some.slot c.in-Some.answer c.in-Some.ensures.items c.loop-slot.invariant.1,
  c.in-Some.ensures.capacity ∙ c.loop-slot.invariant.2,
)

pub loop-slot-preserved : goal.loop-slot-preserved
loop-slot-preserved g c = (
  c.loop-slot.invariant.0,
  ArePlaced-more _ _ _ _ _ _ c.in-Some.slot c.in-Some.answer c.in-Some.ensures.items c.loop-slot.invariant.1,
  c.in-Some.ensures.capacity ∙ c.loop-slot.invariant.2,
)

pub loop-lane-preserved : goal.loop-lane-preserved
loop-lane-preserved g c = record {
  seats = λ i d h. kept_at (λ lane. lane.seat) c.loop-lane.lanes c.loop-lane.lane-index i c.lane-item.result d _ h c.loop-slot.invariant.0
      ∙ c.loop-lane.invariant.seats i d (rw length-set at h);
  spent = λ i d h. grind (arith, length-set, get_or-any, get_or-set_same, get_or-set_other);
  others = λ i d h. grind (arith, length-set, get_or-any, get_or-set_same, get_or-set_other);
  room = λ i d h. kept_at (λ lane. vec_capacity lane.own) c.loop-lane.lanes c.loop-lane.lane-index i c.lane-item.result d _ h (c.pop.ensures.capacity ∙ c.loop-slot.invariant.2)
      ∙ c.loop-lane.invariant.room i d (rw length-set at h);
  placed = λ n h. placed_next (λ lane. times n (map slot_of lane.own.items)) c.args.lanes.now c.loop-lane.lanes c.loop-lane.lane-index c.lane-item.result
      (omega arith) h (ap (λ own. times n (map slot_of own.items)) (c.loop-lane.invariant.others c.loop-lane.lane-index c.lane-item.result (omega arith) (omega arith)))
      (λ own.
      let none : c.loop-slot.lane.own.items ≡ [] = grind arith in
      elim (c.loop-slot.invariant.1.placed n own) [ inl left ↦ absurd (omega (arith, left, ap (λ items. times n (map slot_of items)) none)) | inr has ↦ has ])
      (λ before. c.loop-slot.invariant.1.kept n (c.loop-lane.invariant.placed n before));
}

pub returns-clause-out : goal.returns-clause-out
returns-clause-out g c =
    let A : Type 0 = Lane g.row.J-Out.Denot in
    let xs : List A = c.args.lanes.now in
    let test = c.loop-lane-test.false in
    let auto = c.loop-lane.auto.lane-index-end in
    let end : c.loop-lane.lane-index ≡ length xs = omega arith in
    λ n h. let f : A → ℕ = λ l. times n (map slot_of l.own.items) in
    let once = c.requires.lanes.once n in
    let one : once_below n (length c.args.out.now) ≡ 1 = grind (arith, nat_tests) in
    let all : sum_by f (take c.loop-lane.lane-index xs) ≡ sum_by f xs =
    ap (λ j. sum_by f (take j xs)) end ∙ ap (sum_by f) (take-length xs) in
    c.loop-lane.invariant.placed n (omega arith)

pub returns-clause-seats : goal.returns-clause-seats
returns-clause-seats g c = grind (arith, map_same)
