use Rattle.std.proofs.Common.{◌≡◌, ℕ, ◌<◌, length, slice_index_or, List, sym, ap, ◌∙◌, subst, arith, All}
use Rattle.atomic_table.specs.Seated.{TableId}
use Rattle.scr_workers.specs.declared.lane.Lane.{Lane}
use Rattle.scr_workers.specs.Boards.{weight_in}
use Rattle.scr_workers.specs.Gather.{IsSeated, without_seat, list_in}
use Rattle.scr_workers.specs.Rule.{weigh}
use Rattle.std.proofs.lemmas.List.Sums.{sum_by_more}
use Rattle.scr_workers.proofs.Keeps.{weigh-append, join_keeps}
use Rattle.scr_workers.proofs.Steps.{first_done, length-first_done, first_done-all, step-first_done, at-first_done}
use Rattle.scr_workers.proofs.Steps.{start-first_done}
use Rattle.scr_workers.proofs.Steps.{sum_by-first}
use Rattle.scr_workers.proofs.claims.join_seats.Goals as goal

-- the lane that the loop comes to has a seat of the word
seated_at : {T : Type 0} (word : TableId) (xs ys : List (Lane T)) (k : ℕ) (d : Lane T) → ys ≡ first_done without_seat k xs
    → k < length ys → All (IsSeated word) xs → IsSeated word (slice_index_or ys k d)
seated_at word xs ys k d is within all =
    let len = length-first_done without_seat k xs in
    let same = ap length is in
    subst (IsSeated word) (sym (at-first_done without_seat k xs ys d is)) (all k d (omega arith))

pub loop-k-init : goal.loop-k-init
loop-k-init g c = grind (arith, sum_by-first, step-first_done, start-first_done)

pub unreachable-requires-in_default-take : goal.unreachable-requires-in_default-take
unreachable-requires-in_default-take g c =
    let seated = seated_at c.args.table.now.table.shared.table_id c.args.lanes.now c.loop-k.lanes c.loop-k.k c.index-lanes-k.result c.loop-k.invariant.lanes (omega (arith, c.loop-k.auto.lanes, c.loop-k-test.true)) c.requires.seated in
    rw (sym c.take-in-loop-k.ensures.value ∙ c.in_default-take.is) at seated

pub join_seat-requires : goal.join_seat-requires
join_seat-requires g c =
    let word = c.args.table.now.one_word in
    let seated = seated_at c.args.table.now.table.shared.table_id c.args.lanes.now c.loop-k.lanes c.loop-k.k c.index-lanes-k.result c.loop-k.invariant.lanes (omega (arith, c.loop-k.auto.lanes, c.loop-k-test.true)) c.requires.seated in
    let there = rw (sym c.take-in-loop-k.ensures.value ∙ c.in-Some-take.is) at seated in
    (c.loop-k.invariant.of_table, there.0, there.1, omega (arith, word), join_keeps _ _ _ _)

pub loop-k-preserved : goal.loop-k-preserved
loop-k-preserved g c =
    let A : Type 0 = Lane g.row.T.Denot in
    let inv = c.loop-k.invariant in
    let k : ℕ = c.loop-k.k in
    let d : A = c.index-lanes-k.result in
    let xs : List A = c.args.lanes.now in
    let ys : List A = c.loop-k.lanes in
    let same = ap length inv.lanes in
    let len = length-first_done (without_seat {T = g.row.T.Denot}) k xs in
    let auto = c.loop-k.auto.lanes in
    let test = c.loop-k-test.true in
    let h : k < length xs = omega arith in
    let here : slice_index_or ys k d ≡ slice_index_or xs k d = at-first_done without_seat k xs ys d inv.lanes in
    let taken = sym c.take-in-loop-k.ensures.value ∙ c.in-Some-take.is in
    let joined = c.join_seat.ensures in record {
      of_table = joined.0 ∙ inv.of_table;
      no_slot = ap (λ m. m.1) joined.2 ∙ inv.no_slot;
      weight = let f : A → ℕ = λ l. weight_in l.seat in
          let more = sum_by_more f xs k d h in
          let w = ap (λ m. m.0.weight) joined.2 in
          let e : f (slice_index_or xs k d) ≡ c.in-Some-take.other.me.0.weight = sym (ap f here) ∙ ap weight_in taken in
          let before = inv.weight in omega arith;
      list = λ h'. let f : A → ℕ = λ l. weigh h' (list_in l.seat) in
          let more = sum_by_more f xs k d h in
          let e : f (slice_index_or xs k d) ≡ weigh h' c.in-Some-take.other.me.0.list = sym (ap f here) ∙ ap (λ s. weigh h' (list_in s)) taken in
          let w = ap (λ m. weigh h' m.0.list) joined.2 in
          let cut = weigh-append h' c.loop-k.seat.me.0.list c.in-Some-take.other.me.0.list in
          let before = inv.list h' in omega arith;
      lanes = step-first_done without_seat k xs ys _ d inv.lanes h
          (ap (λ s. let lane : A = record { seat = s; own = (slice_index_or ys k d).own } in lane) c.take-in-loop-k.ensures.after);
    }

pub returns-clause-lanes : goal.returns-clause-lanes
returns-clause-lanes g c = grind (arith, length-first_done, first_done-all)
