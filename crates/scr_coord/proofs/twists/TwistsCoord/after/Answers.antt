use Rattle.std.proofs.Common.{◌≡◌, ap, ◌∙◌, get_or, subst, sym, arith}
use Rattle.scr_combinatorics.specs.Lists.{pick}
use Rattle.scr_combinatorics.specs.Twists.{IsTwists, twists_number, twists_at}
use Rattle.scr_orbit.specs.Orbits.{IsZeroSumOrbit, added_digits}
use Rattle.scr_orbit.specs.PlaceTurns.{made_by}
use Rattle.scr_orbit.proofs.OrbitLaws.{places_in}
use Rattle.scr_orbit.proofs.Places.{picked_below}
use Rattle.scr_coord.specs.Projections.{twists_view}
use Rattle.scr_coord.proofs.ListViews.{IsListView-twists}
use Rattle.scr_coord.proofs.ProjectionLaws.{turn_read, after_read}
use Rattle.scr_coord.proofs.twists.TwistsCoord.after.Goals as goal

pub pick_into-requires-clause-places : goal.pick_into-requires-clause-places
pick_into-requires-clause-places g c =
    let n = g.row.N in
    let me = c.args.self.now in
    let turn =
    turn_read (λ turn. IsZeroSumOrbit n g.row.BASE (made_by turn)) me.turns.now c.args.turn c.index-self-turn.result me.valid c.requires.turn in
    places_in n (get_or me.turns.now c.args.turn c.index-self-turn.result).places c.unrank-seen.result turn.pieces c.unrank-seen.ensures.valid.size

pub add_digits-requires-clause-digits : goal.add_digits-requires-clause-digits
add_digits-requires-clause-digits g c =
    let n = g.row.N in
    let me = c.args.self.now in
    let places = (get_or me.turns.now c.args.turn c.index-self-turn.result).places in
    let turn =
    turn_read (λ turn. IsZeroSumOrbit n g.row.BASE (made_by turn)) me.turns.now c.args.turn c.index-self-turn.result me.valid c.requires.turn in
    picked_below g.row.BASE c.unrank-seen.result places c.pick_into.new.out c.unrank-seen.ensures.valid.below
    (places_in n places c.unrank-seen.result turn.pieces c.unrank-seen.ensures.valid.size) c.pick_into.ensures

pub rank-requires : goal.rank-requires
rank-requires g c =
    let n = g.row.N in
    let m = g.row.BASE in
    let me = c.args.self.now in
    let r = made_by (get_or me.turns.now c.args.turn c.index-self-turn.result) in
    let turn = turn_read (λ turn. IsZeroSumOrbit n m (made_by turn)) me.turns.now c.args.turn c.index-self-turn.result me.valid c.requires.turn in
    let made : c.add_digits.new.digits ≡ added_digits m (pick c.unrank-seen.result r.pieces) r.digits =
    c.add_digits.ensures ∙ ap (λ xs. added_digits m xs r.digits) c.pick_into.ensures in
    let valid = (IsListView-twists n m me.size.0 me.base.0).turned c.unrank-seen.result r c.unrank-seen.ensures.valid turn in
    (omega (arith, me.size), (me.size, (me.base, subst (IsTwists n m) (sym made) valid)))

pub returns-clause-leads : goal.returns-clause-leads
returns-clause-leads g c =
    let m = g.row.BASE in
    let me = c.args.self.now in
    let r = made_by (get_or me.turns.now c.args.turn c.index-self-turn.result) in
    after_read (twists_view g.row.N m) me.turns.now c.args.position c.args.turn c.rank.result c.index-self-turn.result c.unrank-seen.result
    c.requires.turn (c.unrank-seen.ensures.list ∙ ap (twists_at g.row.N m) c.from.ensures)
    (c.rank.ensures.number ∙ ap (twists_number m) (c.add_digits.ensures ∙ ap (λ xs. added_digits m xs r.digits) c.pick_into.ensures))
