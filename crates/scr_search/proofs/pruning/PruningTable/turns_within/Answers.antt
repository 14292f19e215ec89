use Rattle.std.proofs.Common.{◌≡◌, ◌-◌, ◌<◌, ◌^◌, bit_and, Some, refl, subst, sym, ltb-true, arith}
use Rattle.std.specs.Prelude.{slice_get}
use Rattle.std.proofs.lemmas.Option.{slice_get_read}
use lib.Bits.{and_mask}
use Rattle.scr_table.specs.Lines.{TableLine}
use Rattle.scr_search.specs.Outlooks.{HasNearer, IsOutlook, IsPruningTable}
use Rattle.scr_search.proofs.BitSets.{has_turn-all}
use Rattle.scr_search.proofs.pruning.PruningTable.turns_within.Goals.{In-Some}
use Rattle.scr_search.proofs.pruning.PruningTable.turns_within.Goals as goal

-- the outlook that is found
found : (c : In-Some) (line : TableLine) → IsPruningTable line c.args.self.now
    → IsOutlook line.coordinate c.args.self.now.distances.distances c.args.position c.in-Some.outlook.now
found c line is =
    let position = c.args.position in
    let outlook = c.in-Some.outlook.now in
    let below = subst (λ n. position < n) is.distances.measures.positions c.requires in
    let found = c.in-Some.ensures.lookup in
    let there = slice_get_read c.deref.result.now _ position outlook refl (ltb-true _ _ (sym found.0)) found.1 in
    is.outlooks.each position outlook below (subst (λ all. slice_get all position ≡ Some outlook) c.deref.ensures.value there)

pub returns-in_default-clause-nearer : goal.returns-in_default-clause-nearer
returns-in_default-clause-nearer c = λ line is. record { kept = λ t q few to here lt. has_turn-all t few }

pub returns-then-left-distance-2-clause-nearer : goal.returns-then-left-distance-2-clause-nearer
returns-then-left-distance-2-clause-nearer c = λ line is.
    let far = (found (goal.at.returns-then-left-distance-2-clause-nearer c).In-Some line is).far in
    record { kept = λ t q few to here lt. absurd (omega (arith, far, here, c.if-left-distance-2.true)) }

pub returns-then-left-distance-3-clause-nearer : goal.returns-then-left-distance-3-clause-nearer
returns-then-left-distance-3-clause-nearer c = λ line is.
    let leaves = HasNearer line.coordinate c.args.self.now.distances.distances c.args.position in
    subst (λ left. leaves left (bit_and c.in-Some.outlook.now.nearer (2 ^ 18 - 1))) (sym c.if-left-distance-3.true)
    (subst (leaves _) (sym (and_mask c.in-Some.outlook.now.nearer 18)) (found (goal.at.returns-then-left-distance-3-clause-nearer c).In-Some line is).near)

pub returns-then-left-distance-4-clause-nearer : goal.returns-then-left-distance-4-clause-nearer
returns-then-left-distance-4-clause-nearer c = λ line is.
    let leaves = HasNearer line.coordinate c.args.self.now.distances.distances c.args.position in
    subst (λ left. leaves left (bit_and c.in-Some.outlook.now.no_farther (2 ^ 18 - 1))) (sym c.if-left-distance-4.true)
    (subst (leaves _) (sym (and_mask c.in-Some.outlook.now.no_farther 18)) (found (goal.at.returns-then-left-distance-4-clause-nearer c).In-Some line is).level)

pub returns-else-left-distance-4-clause-nearer : goal.returns-else-left-distance-4-clause-nearer
returns-else-left-distance-4-clause-nearer c = λ line is. record { kept = λ t q few to here lt. has_turn-all t few }
