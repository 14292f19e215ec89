use Rattle.std.proofs.Common.{ℕ, ◌<◌, ◌≤◌, List, length, map, ap, ◌∙◌, get_or, subst, sym, arith}
use Rattle.std.proofs.lemmas.List.{length-replicate}
use Rattle.scr_combinatorics.specs.Permutations.{IsPermutation}
use Rattle.scr_combinatorics.specs.PlaceSets.{IsPlaceSet, place_set_number, place_set_at}
use Rattle.scr_orbit.specs.declared.placed.PlaceTurn.{PlaceTurn}
use Rattle.scr_orbit.specs.PlaceTurns.{made_by}
use Rattle.scr_coord.specs.Projections.{AreTurns, place_set_view, turned_set}
use Rattle.scr_coord.proofs.MarkedLaws.{IsPlaceSet-turned}
use Rattle.scr_coord.proofs.MarkedSteps.{set_le}
use Rattle.scr_coord.proofs.ProjectionLaws.{turn_read, after_read}
use Rattle.scr_coord.proofs.place_set.PlaceSetCoord.after.Goals as goal

-- a turn that is read moves a set to a set
set_turned : {n : ℕ} (k : ℕ) (set : List ℕ) (turns : List (PlaceTurn n)) (t : ℕ) (turn : PlaceTurn n)
    → IsPlaceSet n k set → AreTurns (λ turn. IsPermutation n turn.places) turns
    → t < length (map made_by turns) → IsPlaceSet n k (turned_set set (made_by (get_or turns t turn)))
set_turned {n} k set turns t turn is valid lt =
    IsPlaceSet-turned n k set (made_by (get_or turns t turn)) is (turn_read (λ turn. IsPermutation n turn.places) turns t turn valid lt)

pub places_of-requires-clause-fits : goal.places_of-requires-clause-fits
places_of-requires-clause-fits g c =
    let k = g.row.K in
    let me = c.args.self.now in
    (set_turned k c.unrank-seen.result me.turns.now c.args.turn c.index-self-turn.result c.unrank-seen.ensures.valid me.valid c.requires.turn).size
    ∙ sym (length-replicate k 0)

pub rank-requires : goal.rank-requires
rank-requires g c =
    let n = g.row.N in
    let k = g.row.K in
    let me = c.args.self.now in
    let valid = set_turned k c.unrank-seen.result me.turns.now c.args.turn c.index-self-turn.result c.unrank-seen.ensures.valid me.valid c.requires.turn in
    let few : k ≤ n = set_le n k me.home me.set in
    (omega (arith, me.size), (me.size.1, subst (IsPlaceSet n k) (sym c.places_of.ensures) valid))

pub overflow_cast-result : goal.overflow_cast-result
overflow_cast-result g c = omega (arith, c.rank.ensures.below, c.args.self.now.fits)

pub returns-clause-leads : goal.returns-clause-leads
returns-clause-leads g c =
    let n = g.row.N in
    let k = g.row.K in
    let me = c.args.self.now in
    after_read (place_set_view n k me.home) me.turns.now c.args.position c.args.turn c.rank.result c.index-self-turn.result c.unrank-seen.result
    c.requires.turn (c.unrank-seen.ensures.list ∙ ap (place_set_at n k) c.from.ensures)
    (c.rank.ensures.number ∙ ap (place_set_number n) c.places_of.ensures)
