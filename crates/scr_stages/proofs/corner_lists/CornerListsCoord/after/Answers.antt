use Rattle.std.proofs.Common.{[], get_or, ap, ◌∙◌, sym}
use Rattle.scr_combinatorics.specs.Permutations.{IsPermutation}
use Rattle.scr_combinatorics.proofs.PermutationLaws.{IsPermutation-pick}
use Rattle.scr_orbit.specs.declared.placed.PlaceTurn.{PlaceTurn}
use Rattle.scr_orbit.proofs.OrbitLaws.{places_in}
use Rattle.scr_coord.proofs.ProjectionLaws.{turn_read, after_read}
use Rattle.scr_stages.specs.Tetrads.{corners_view}
use Rattle.scr_stages.proofs.corner_lists.CornerListsCoord.after.Goals as goal

abbrev none : PlaceTurn 8
none = record { places = []; added = [] }

pub pick_into-requires-clause-places : goal.pick_into-requires-clause-places
pick_into-requires-clause-places g c =
    let turns = c.args.self.now.turns.now in
    places_in 8 (get_or turns c.args.turn none).places c.list_at.result
    (turn_read (λ turn. IsPermutation 8 turn.places) turns c.args.turn none c.args.self.now.valid c.requires.turn) c.list_at.ensures.valid.size

pub number_of-requires : goal.number_of-requires
number_of-requires g c =
    let turns = c.args.self.now.turns.now in
    rw c.pick_into.ensures
    (IsPermutation-pick 8 c.list_at.result (get_or turns c.args.turn none).places c.list_at.ensures.valid
    (turn_read (λ turn. IsPermutation 8 turn.places) turns c.args.turn none c.args.self.now.valid c.requires.turn))

pub returns-clause-leads : goal.returns-clause-leads
returns-clause-leads g c =
    let v = g.V.CornerNumbers.view in
    after_read (corners_view v.count v.list_at v.number_of) c.args.self.now.turns.now c.args.position c.args.turn c.number_of.result none c.list_at.result
    c.requires.turn c.list_at.ensures.same (c.number_of.ensures ∙ ap v.number_of c.pick_into.ensures)

pub returns-clause-below : goal.returns-clause-below
returns-clause-below g c =
    c.args.self.now.stays c.args.position c.args.turn c.number_of.result c.requires.position c.requires.turn (sym (returns-clause-leads g c))
