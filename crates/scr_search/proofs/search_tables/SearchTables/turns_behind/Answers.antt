use Rattle.std.proofs.Common.{◌≡◌, ℕ, ◌-◌, ◌^◌, ◌<◌, Option, length, get_or, subst, sym, ap, ◌∙◌, arith, pow_pos, true, Some}
use Rattle.std.specs.Int.Bits.{bit_and}
use Rattle.std.specs.Option.{option_map_or}
use Rattle.std.specs.Prelude.{slice_get}
use Rattle.std.proofs.lemmas.Bool.{and_parts}
use Rattle.scr_cube.specs.Cube333.{CubeState}
use Rattle.scr_search.specs.Orderly.{may_end, may_precede}
use Rattle.scr_search.specs.TurnSets.{contains_turn}
use Rattle.scr_search.specs.Search.{IsAt, KeepsWays}
use Rattle.scr_search.specs.Views.{AreViews, index_beside, one_line, other_line}
use Rattle.scr_search.proofs.Admissible.{LeavesWays-table}
use Rattle.scr_search.proofs.BitSets.{has_turn-and}
use Rattle.scr_search.proofs.NearLaws.{AreLookedAt-begin, AreLookedAt-next, LeavesNear-looked}
use Rattle.scr_search.specs.Near.{IsInSet}
use lib.Bits.{and_le_r}
use Rattle.scr_search.proofs.SearchSteps.{any_place, KeepsWays-and, KeepsWays-behind, KeepsWays-last, KeepsWays-near, LeavesWays}
use Rattle.scr_search.proofs.ViewLaws.{Sees-beside, one-shown, other-shown}
use Rattle.scr_search.proofs.Leads.{played-at}
use Rattle.scr_search.proofs.search_tables.SearchTables.turns_behind.Goals as goal
use Rattle.scr_search.proofs.search_tables.SearchTables.turns_behind.Given.{Over}
use Rattle.scr_search.proofs.search_tables.SearchTables.turns_behind.Goals.{After-turns_within-by_other, in-None, in-Some}

-- the turn of a face behind which others stand is one of the 18
last-lt : (g : Over) (c : After-turns_within-by_other g) (t : ℕ) → Some t ≡ slice_get c.deref.result.now (length c.deref.result.now - 1) → t < 18
last-lt g c t is =
    let h = c.requires.at in
    played-at h.0 h.1.there c.args.word.now.items _ t h.1.played (sym (is ∙ ap (λ xs. slice_get xs (length xs - 1)) c.deref.ensures.0))

-- the turns that may stand right behind the word
may : (g : Over) (c : After-turns_within-by_other g) (place : ℕ) → place < length g.P.Part.views.turns
    → contains_turn (get_or c.extent-extent.result.now.behind c.match-last.face 0) place ≡ may_end c.args.word.now.items (get_or g.P.Part.views.turns place 0)
unfolding may_end
may g c place lt =
    let h = c.extent-extent.ensures.views.behind.1 in
    let has = λ (k : ℕ). contains_turn (get_or c.extent-extent.result.now.behind k 0) place in
    let first = λ (o : Option ℕ). option_map_or (λ last. may_precede last (get_or g.P.Part.views.turns place 0)) o true in
    let items = ap (λ xs. slice_get xs (length xs - 1)) c.deref.ensures.0 in
    elim c.match-last.branch [
      | in-None w ↦ ap has w.face-is ∙ h.all place lt ∙ ap first (w.in-None.ensures.value ∙ items)
      | in-Some w ↦
          ap has (w.face-is ∙ w.from-face.ensures) ∙ h.each w.in-Some.turn.now place (last-lt g c w.in-Some.turn.now w.in-Some.ensures.value) lt
          ∙ ap first (w.in-Some.ensures.value ∙ items)
    ]

pub bounds-extent-face : goal.bounds-extent-face
bounds-extent-face g c =
    elim c.match-last.branch [
      | in-None w ↦ omega (arith, w.face-is)
      | in-Some w ↦
          let h = c.requires.at in
          let items = ap (λ xs. slice_get xs (length xs - 1)) c.deref.ensures.0 in
          omega (arith, w.face-is, w.from-face.ensures, played-at h.0 h.1.there c.args.word.now.items _ w.in-Some.turn.now h.1.played (sym (w.in-Some.ensures.value ∙ items)))
    ]

-- the turns that both tables leave keep the ways
keeps : (g : Over) (c : After-turns_within-by_other g) (cube : CubeState) → IsAt g.P.Part.views cube c.args.word.now.items c.args.at
    → KeepsWays g.P.Part.views cube c.args.word.now.items c.args.left (bit_and (bit_and (get_or c.extent-extent.result.now.behind c.match-last.face 0) c.turns_within-by_one.result.bits) c.turns_within-by_other.result.bits)
keeps g c cube h =
    let v = g.P.Part.views in
    let e = g.P.Part.extent in
    let are = subst (AreViews v) c.extent-extent.ensures.same c.extent-extent.ensures.views in
    let self = c.args.self.now in
    let at = c.args.at in
    let set : ℕ = get_or c.extent-extent.result.now.behind c.match-last.face 0 in
    let index_one = c.index-one.ensures.index ∙ ap (λ e. index_beside e.middle_first e.ones e.middles at.one at.middle) c.extent-extent.ensures.same in
    let index_other = c.index-other.ensures.index ∙ ap (λ e. index_beside e.middle_first e.others e.middles at.other at.middle) c.extent-extent.ensures.same in
    let one : LeavesWays v h.there c.args.left c.turns_within-by_one.result.bits =
    LeavesWays-table (Sees-beside e.middle_first are.one are.middle) self.one_is.distances.measures are.few.0
    h.shows.seen (one-shown are h.shows c.index-one.result index_one) c.requires.some (c.turns_within-by_one.ensures.nearer (one_line v e) self.one_is) in
    let other : LeavesWays v h.there c.args.left c.turns_within-by_other.result.bits =
    LeavesWays-table (Sees-beside e.middle_first are.other are.middle) self.other_is.distances.measures are.few.0
    h.shows.seen (other-shown are h.shows c.index-other.result index_other) c.requires.some (c.turns_within-by_other.ensures.nearer (other_line v e) self.other_is) in
    let may : KeepsWays v cube c.args.word.now.items c.args.left set =
    KeepsWays-behind h (any_place (2 ^ length v.turns) c.extent-extent.result.now.behind c.match-last.face (pow_pos (length v.turns)) c.extent-extent.ensures.views.behind.0) (may g c) in
    KeepsWays-and h c.turns_within-by_other.result.bits (has_turn-and (bit_and set c.turns_within-by_one.result.bits) c.turns_within-by_other.result.bits)
    (KeepsWays-and h c.turns_within-by_one.result.bits (has_turn-and set c.turns_within-by_one.result.bits) may one) other

pub returns-then-left-eq1-clause-kept : goal.returns-then-left-eq1-clause-kept
returns-then-left-eq1-clause-kept g c = λ cube h.
    KeepsWays-last h c.extent-extent.result.now.last.bits (has_turn-and _ c.extent-extent.result.now.last.bits) (keeps g (goal.at.returns-then-left-eq1-clause-kept g c).After-turns_within-by_other cube h) c.if-left-eq1.true
    c.extent-extent.ensures.views.last

pub returns-then-left-ne-NEAR_AT-clause-kept : goal.returns-then-left-ne-NEAR_AT-clause-kept
returns-then-left-ne-NEAR_AT-clause-kept g c = keeps g (goal.at.returns-then-left-ne-NEAR_AT-clause-kept g c).After-turns_within-by_other

pub returns-then-left-eq1-clause-last : goal.returns-then-left-eq1-clause-last
returns-then-left-eq1-clause-last g c = λ one place is.
    let last = c.extent-extent.result.now.last.bits in
    let parts = and_parts _ (contains_turn last place) (sym (has_turn-and _ last place) ∙ is) in
    let cube = c.requires.at in
    let lt = ((keeps g ((goal.at.returns-then-left-eq1-clause-last g c).After-turns_within-by_other) cube.0 cube.1).follow place parts.0).below in
    sym (c.extent-extent.ensures.views.last place lt) ∙ parts.1

few : (a b : ℕ) → b < 2 ^ 18 → bit_and a b < 2 ^ 18
few a b lt = omega (arith, and_le_r a b)

pub loop-place-init : goal.loop-place-init
loop-place-init g c =
    AreLookedAt-begin g.P.Part.views c.args.at (IsInSet c.args.self.now.near) _ (few _ _ c.turns_within-by_other.ensures.few)

pub after-requires-clause-place : goal.after-requires-clause-place
after-requires-clause-place g c =
    let cube = c.requires.at in
    let kept = keeps g (goal.at.after-requires-clause-place g c).After-turns_within-by_other cube.0 cube.1 in
    (kept.follow c.in-Some-pop.place (c.loop-place.invariant.others_among c.in-Some-pop.place c.in-Some-pop.ensures.taken)).below

pub loop-place-preserved : goal.loop-place-preserved
loop-place-preserved g c =
    let Has = IsInSet c.args.self.now.near in
    AreLookedAt-next g.P.Part.views c.args.at Has _ c.loop-place.others.bits c.loop-place.into.bits
    c.loop-place.invariant c.in-Some-pop.place c.pop.new.self.bits c.with_if-into.result.bits c.has.result c.in-Some-pop.ensures.taken c.in-Some-pop.ensures.others
    c.in-Some-pop.ensures.few c.with_if-into.ensures.turns c.with_if-into.ensures.few
    (λ cube next shown to there. c.has.ensures (subst Has (sym (c.number_of-next.ensures next (c.after.ensures cube next shown to))) there))

pub returns-clause-kept : goal.returns-clause-kept
returns-clause-kept g c = λ cube h.
    let v = g.P.Part.views in
    KeepsWays-near h (omega (arith, c.if-left-ne-NEAR_AT.false))
    (LeavesNear-looked v c.args.at (IsInSet c.args.self.now.near) _ c.loop-place.others.bits
    c.loop-place.into.bits c.loop-place.invariant g.P.Part.extent (subst (AreViews v) c.extent-extent.ensures.same c.extent-extent.ensures.views) h.there 7 c.in_default.ensures.none c.args.self.now.near_is h.shows)
    (keeps g (goal.at.returns-clause-kept g c).After-turns_within-by_other cube h)
