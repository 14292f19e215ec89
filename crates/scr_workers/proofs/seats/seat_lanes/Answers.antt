use Rattle.std.proofs.Common.{◌≡◌, ◌+◌, ◌-◌, ℕ, List, Some, length, set, take, slice_index_or, sym, subst, ◌∙◌, arith, length-set}
use Rattle.std.specs.Prelude.{All, IsSomeAnd}
use Rattle.std.proofs.lemmas.List.{take_all, take_more_set}
use Rattle.std.proofs.lemmas.List.Elements.{All-push}
use Rattle.scr_workers.specs.declared.lane.Lane.{Lane}
use Rattle.scr_workers.specs.Seats.{IsFreshSeat}
use Rattle.scr_workers.proofs.Keeps.{cut_keeps'}
use Rattle.scr_workers.proofs.seats.seat_lanes.Goals as goal

pub split_seat-part-requires : goal.split_seat-part-requires
split_seat-part-requires g c =
    let inv = c.loop-k.invariant in
    let word = c.args.table.now.one_word in
    let test = c.loop-k-test.true in
    let few = c.requires.workers.1 in (
      inv.of_table,
      omega (arith, word),
      cut_keeps' _ _ (omega (arith, inv.weight_is, test, few)) inv.no_claim,
    )

pub returns-clause-seats : goal.returns-clause-seats
returns-clause-seats g c =
    let A : Type 0 = Lane g.row.T.Denot in
    let inv = c.loop-k.invariant in
    let P : A → Type 0 = λ l. IsSomeAnd l.seat (IsFreshSeat c.args.table.now.table.shared.table_id) in
    let xs : List A = c.loop-k.lanes in
    let n : ℕ = length c.args.lanes.now - 1 in
    let y : A = record { seat = Some c.loop-k.first; own = (slice_index_or xs n c.index-lanes-last.result).own } in
    let auto = c.loop-k.auto.lanes in
    let some = c.requires.workers.0 in
    let few = c.requires.workers.1 in
    let test = c.loop-k-test.false in
    let near = c.loop-k.auto.k-end in
    let at_end : c.loop-k.k ≡ n = omega arith in
    let size = length-set xs n y in
    let own : P y = record {
      of_word = inv.of_table;
      some_weight = omega (arith, inv.weight_is);
      no_claim = inv.no_claim;
      no_slot = inv.no_slot;
    } in
    let all = All-push P (take n xs) y (subst (λ j. All P (take j xs)) at_end inv.seats) own in
    let whole = take_all (n + 1) (set xs n y) (omega arith) in
    subst (All P) (sym (take_more_set xs n y (omega arith)) ∙ whole) all
