use Rattle.std.proofs.Common.{◌≡◌, ◌+◌, ◌<◌, ℕ, List, ◌∷◌, Some, suc, drop, get_or, lit<, lit≤, length, refl, ap, ◌∙◌, subst, sym, arith}
use Rattle.std.specs.Prelude.{◌-◌, slice_get}
use Rattle.std.proofs.Math.ListN.{drop_of_length-le}
use Rattle.std.proofs.Math.Seq.{drop-cons}
use Rattle.std.proofs.lemmas.Option.{same_Some}
use Rattle.scr_combinatorics.specs.Permutations.{IsPermutation}
use Rattle.scr_combinatorics.specs.Play.{play}
use Rattle.scr_combinatorics.proofs.PlayLaws.{play-empty, play-parts}
use Rattle.scr_cube.specs.Cube333.{CubeState}
use Rattle.scr_search.specs.Orderly.{after_turn}
use Rattle.scr_orbit.proofs.OrbitLaws.{places_in}
use Rattle.scr_search.proofs.Leads.{played-below}
use Rattle.scr_twophase.proofs.CubeTests.{IsDomino-test}
use Rattle.scr_twophase.proofs.SecondSteps.{Shows-numbers, any_last, carried, corners-turned, edges-turned, joined-searched}
use Rattle.scr_twophase.proofs.first.FirstPartPart.give.Goals.{After-loop-turn}
use Rattle.scr_twophase.proofs.first.FirstPartPart.give.Goals as goal

-- the next turn leads to a cube, and the others on
next : (turns : List ℕ) (i t : ℕ) (c d e : CubeState) → i < length turns → t ≡ get_or turns i 0
    → play after_turn d (drop i turns) ≡ play after_turn c turns → play after_turn c turns ≡ Some e
    → (r : CubeState) × (after_turn d t ≡ Some r) × (play after_turn r (drop (i + 1) turns) ≡ Some e)
next turns i t c d e lt is so_far played =
    let more : suc i ≡ i + 1 = omega arith in
    let at = drop-cons turns i 0 lt ∙ ap (λ n. get_or turns i 0 ∷ drop n turns) more ∙ ap (λ u. u ∷ drop (i + 1) turns) (sym is) in
    play-parts after_turn d e t (drop (i + 1) turns) (ap (play after_turn d) (sym at) ∙ so_far ∙ played)

played : (cube end : CubeState) (word items : List ℕ) → items ≡ word → play after_turn cube word ≡ Some end
    → play after_turn cube items ≡ Some end
played cube end word items same leads = ap (play after_turn cube) same ∙ leads

pub loop-turn-init : goal.loop-turn-init
loop-turn-init c = (c.args.cube.now, refl, c.corners-corners.ensures.same, c.edges-edges.ensures.same)

below : (cube end : CubeState) (turns : List ℕ) (i t : ℕ) → play after_turn cube turns ≡ Some end → i < length turns
    → t ≡ get_or turns i 0 → t < 18
below cube end turns i t played lt is = subst (λ k. k < 18) (sym is) (played-below cube end turns played i 0 lt)

pub bounds-corner_turns-number : goal.bounds-corner_turns-number
bounds-corner_turns-number c =
    let lt = below c.args.cube.now c.requires.whole.there c.as_slice-turn-items.result.now c.loop-turn.turn-index c.from-number.result (played c.args.cube.now c.requires.whole.there c.args.word.now.items c.as_slice-turn-items.result.now c.as_slice-turn-items.ensures.value c.requires.whole.played) c.loop-turn-test.true c.from-number.ensures in
    omega (arith, c.corner_turns.ensures.count, lt)

pub pick_into-requires-clause-places : goal.pick_into-requires-clause-places
pick_into-requires-clause-places c =
    let lt = below c.args.cube.now c.requires.whole.there c.as_slice-turn-items.result.now c.loop-turn.turn-index c.from-number.result (played c.args.cube.now c.requires.whole.there c.args.word.now.items c.as_slice-turn-items.result.now c.as_slice-turn-items.ensures.value c.requires.whole.played) c.loop-turn-test.true c.from-number.ensures in
    places_in 8 _ c.loop-turn.corners (c.corner_turns.ensures.valid c.from-number.result _ (omega (arith, c.corner_turns.ensures.count, lt))).pieces (omega arith)

pub pick_into-requires-in-loop-turn-clause-places : goal.pick_into-requires-in-loop-turn-clause-places
pick_into-requires-in-loop-turn-clause-places c =
    let lt = below c.args.cube.now c.requires.whole.there c.as_slice-turn-items.result.now c.loop-turn.turn-index c.from-number.result (played c.args.cube.now c.requires.whole.there c.args.word.now.items c.as_slice-turn-items.result.now c.as_slice-turn-items.ensures.value c.requires.whole.played) c.loop-turn-test.true c.from-number.ensures in
    places_in 12 _ c.loop-turn.edges (c.edge_turns.ensures.valid c.from-number.result _ (omega (arith, c.edge_turns.ensures.count, lt))).pieces (omega arith)

pub loop-turn-preserved : goal.loop-turn-preserved
loop-turn-preserved c =
    let d = c.loop-turn.invariant in
    let t = c.from-number.result in
    let r = next c.as_slice-turn-items.result.now c.loop-turn.turn-index t c.args.cube.now d.0 c.requires.whole.there c.loop-turn-test.true c.from-number.ensures d.1 (played c.args.cube.now c.requires.whole.there c.args.word.now.items c.as_slice-turn-items.result.now c.as_slice-turn-items.ensures.value c.requires.whole.played) in (
      r.0,
      r.2 ∙ sym (played c.args.cube.now c.requires.whole.there c.args.word.now.items c.as_slice-turn-items.result.now c.as_slice-turn-items.ensures.value c.requires.whole.played),
      carried (λ q. q.corners) c.corner_turns.result.now c.corner_turns.ensures t _ (λ q. q.corners.pieces) corners-turned d.0 r.0 _ _ r.1 d.2 c.pick_into.ensures,
      carried (λ q. q.edges) c.edge_turns.result.now c.edge_turns.ensures t _ (λ q. q.edges.pieces) edges-turned d.0 r.0 _ _ r.1 d.3 c.pick_into-in-loop-turn.ensures,
    )

-- at the end that cube stands
there : (c : After-loop-turn) → c.loop-turn.invariant.0 ≡ c.requires.whole.there
there c =
    let d = c.loop-turn.invariant in
    same_Some d.0 c.requires.whole.there
    (sym (play-empty after_turn d.0) ∙ ap (play after_turn d.0) (sym (drop_of_length-le c.as_slice-turn-items.result.now c.loop-turn-test.false)) ∙ d.1 ∙ (played c.args.cube.now c.requires.whole.there c.args.word.now.items c.as_slice-turn-items.result.now c.as_slice-turn-items.ensures.value c.requires.whole.played))

pub rank-requires : goal.rank-requires
rank-requires c =
    let is = c.loop-turn.invariant.2 ∙ ap (λ d. d.corners.pieces) (there (goal.at.rank-requires c).After-loop-turn) in
    (lit< tt, (lit≤ tt, subst (IsPermutation 8) (sym is) c.requires.whole.seen.corners.pieces))

pub within-requires : goal.within-requires
within-requires c =
    let h = c.requires.whole in
    let word = c.args.word.now.items in
    let same = there (goal.at.within-requires c).After-loop-turn in
    record {
      at = record {
        there = h.there;
        played = h.played;
        shows = Shows-numbers h.there (record { one = c.rank.result; other = c.block_number.result; middle = c.block_number-2.result })
            c.loop-turn.corners c.loop-turn.edges (record { cube = h.seen; domino = (IsDomino-test h.there).0 h.ends }) (c.loop-turn.invariant.2 ∙ ap (λ d. d.corners.pieces) same) (c.loop-turn.invariant.3 ∙ ap (λ d. d.edges.pieces) same)
            c.rank.ensures.number c.block_number.ensures.number c.block_number-2.ensures.number;
        orderly = h.orderly;
      };
      last = any_last (slice_get word (length word - 1));
      few = omega (arith, c.requires.few);
    }

pub returns : goal.returns
returns c = record {
  given = joined-searched c.args.cube.now c.args.word.now.items c.within.new.word.items c.within.result c.within.new.tries c.within.ensures;
  same = c.within.ensures.same;
}
