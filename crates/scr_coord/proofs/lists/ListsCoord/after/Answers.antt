use Rattle.std.proofs.Common.{ap, ◌∙◌, get_or, subst, sym, arith}
use Rattle.scr_combinatorics.specs.Permutations.{IsPermutation, permutation_number, permutation_at}
use Rattle.scr_orbit.specs.PlaceTurns.{made_by}
use Rattle.scr_orbit.proofs.OrbitLaws.{places_in}
use Rattle.scr_coord.specs.Projections.{pieces_view}
use Rattle.scr_coord.proofs.ListViews.{IsListView-pieces}
use Rattle.scr_coord.proofs.ProjectionLaws.{turn_read, after_read}
use Rattle.scr_coord.proofs.lists.ListsCoord.after.Goals as goal

pub pick_into-requires-clause-places : goal.pick_into-requires-clause-places
pick_into-requires-clause-places g c =
    let n = g.row.N in
    let me = c.args.self.now in
    let turn = turn_read (λ turn. IsPermutation n turn.places) me.turns.now c.args.turn c.index-self-turn.result me.valid c.requires.turn in
    places_in n (get_or me.turns.now c.args.turn c.index-self-turn.result).places c.unrank-seen.result turn c.unrank-seen.ensures.valid.size

pub rank-requires : goal.rank-requires
rank-requires g c =
    let n = g.row.N in
    let me = c.args.self.now in
    let r = made_by (get_or me.turns.now c.args.turn c.index-self-turn.result) in
    let turn = turn_read (λ turn. IsPermutation n turn.places) me.turns.now c.args.turn c.index-self-turn.result me.valid c.requires.turn in
    let valid = (IsListView-pieces n).turned c.unrank-seen.result r c.unrank-seen.ensures.valid turn in
    (omega (arith, me.size), (me.size.1, subst (IsPermutation n) (sym c.pick_into.ensures) valid))

pub overflow_cast-result : goal.overflow_cast-result
overflow_cast-result g c = omega (arith, c.rank.ensures.below, c.args.self.now.fits)

pub returns-clause-leads : goal.returns-clause-leads
returns-clause-leads g c =
    after_read (pieces_view g.row.N) c.args.self.now.turns.now c.args.position c.args.turn c.rank.result c.index-self-turn.result c.unrank-seen.result
    c.requires.turn (c.unrank-seen.ensures.list ∙ ap (permutation_at g.row.N) c.from.ensures)
    (c.rank.ensures.number ∙ ap permutation_number c.pick_into.ensures)
