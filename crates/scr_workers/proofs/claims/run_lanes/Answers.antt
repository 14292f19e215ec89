use Rattle.std.proofs.Common.{◌+◌, ℕ, List, length, slice_index_or, map, drop, Some, refl, sym, ◌∙◌, ap, subst, arith}
use Rattle.std.proofs.Common.{vec_capacity, get_or-set_same, get_or-set_other}
use Rattle.std.proofs.lemmas.List.{get_or-map}
use Rattle.scr_workers.proofs.Steps.{get_or-any}
use Rattle.std.proofs.lemmas.List.Elements.{All-drop}
use Rattle.scr_workers.specs.declared.lane.Lane.{Lane}
use Rattle.scr_workers.specs.Boards.{weight_in}
use Rattle.scr_workers.specs.Gather.{IsSpent, HoldAnswers, times, once_below}
use Rattle.scr_workers.proofs.Ends.{sum_by-agree, list_times, hold, all_spent, set-front, some_there}
use Rattle.scr_workers.proofs.Keeps.{look_keeps}
use Rattle.scr_workers.proofs.claims.run_lanes.Goals as goal

pub load-requires : goal.load-requires
load-requires g c =
    let word = c.args.table.now.one_word in
    let weights = c.requires.weights in
    let run = sum_by-agree (λ (l : Lane g.row.J-Out.Denot). weight_in l.seat) c.args.lanes.now c.run_workers.new.lanes c.run_workers.auto.lanes c.run_workers.ensures.weights in
    let joined = c.join_seats-seat.ensures.weight in
    (c.join_seats-seat.ensures.table.0, omega (arith, word), look_keeps _ _ _ (omega arith))

pub gather-requires-clause-lanes : goal.gather-requires-clause-lanes
gather-requires-clause-lanes g c κs within =
    let A : Type 0 = Lane g.row.J-Out.Denot in
    let weights = c.requires.weights in
    let some = some_there (λ (l : A). weight_in l.seat) c.args.lanes.now (omega arith) in
    let same = c.run_workers.auto.lanes in
    let ran = c.run_workers in
    let joined = c.join_seats-seat in
    let word = c.args.table.now.table.shared.table_id in
    let slots : ℕ = length c.args.out.now in
    let Is = g.J.Jobs.is_answer c.args.jobs.now in
    let list = joined.result.me.0.list in
    let held =
    hold word slots Is ran.new.lanes ran.ensures.run list c.load.result joined.ensures.list c.load.ensures.2.1 (omega arith) in
    subst (HoldAnswers slots Is) (sym joined.ensures.lanes) held

pub returns-clause-lanes : goal.returns-clause-lanes
returns-clause-lanes g c =
    let A : Type 0 = Lane g.row.J-Out.Denot in
    let weights = c.requires.weights in
    let some = some_there (λ (l : A). weight_in l.seat) c.args.lanes.now (omega arith) in
    let ran = c.run_workers.auto.lanes in
    let joined = c.join_seats-seat.auto.lanes in
    let gathered = c.gather.auto.lanes in
    let table = c.args.table.now.table.shared.table_id in
    let slots : ℕ = length c.args.out.now in
    let Is : ℕ → g.row.J-Out.Denot → Type 0 = g.J.Jobs.is_answer c.args.jobs.now in
    let lanes : List A = c.gather.new.lanes in
    let first : A = record { seat = Some c.load.new.seat; own = (slice_index_or lanes 0 c.index-lanes-0.result).own } in
    let list : List ℕ = c.join_seats-seat.result.me.0.list in record {
      first = first;
      others = drop 1 lanes;
      seat = c.load.new.seat;
      lanes_are = set-front lanes first (omega arith);
      seat_is = refl;
      of_word = c.load.ensures.0 ∙ c.join_seats-seat.ensures.table.0;
      no_answer = c.gather.ensures.own 0 c.index-lanes-0.result (omega arith);
      spent = All-drop IsSpent 1 lanes (all_spent table slots Is lanes c.run_workers.new.lanes
          (c.gather.ensures.seats ∙ ap (map (λ (l : A). l.seat)) c.join_seats-seat.ensures.lanes) c.gather.ensures.own);
      once = λ x. ap (λ m. times x m.0.list) c.load.ensures.2.0
          ∙ (list_times table slots Is c.run_workers.new.lanes c.run_workers.ensures.run list c.load.result
          c.join_seats-seat.ensures.list c.load.ensures.2.1 (omega arith) x ∙ ap (λ n. once_below x (slots + n)) ran);
    }

pub returns-clause-room : goal.returns-clause-room
returns-clause-room g c i d below =
    grind (arith, vec_capacity, get_or-map, get_or-set_same, get_or-any, get_or-set_other)
