use Rattle.std.proofs.Common.{◌<◌}
use Rattle.scr_combinatorics.proofs.PermutationLaws.{All-permutation}
use Rattle.scr_combinatorics.proofs.Picks.{All-pick}
use Rattle.scr_stages.proofs.Blocks.{All-places, IsPlaceSet-places_in}
use Rattle.scr_stages.proofs.corners.tetrad_at.Goals as goal

pub pick_into-requires-clause-places : goal.pick_into-requires-clause-places
pick_into-requires-clause-places c =
    let corners = c.args.corners.now in
    rw c.places_of.ensures (All-places 8 4 _ corners (IsPlaceSet-places_in 8 4 c.args.tetrad.now corners c.requires.tetrad c.requires.corners) c.requires.corners.size)

pub axes_of-requires : goal.axes_of-requires
axes_of-requires c =
    let corners = c.args.corners.now in
    rw (c.pick_into.ensures, c.places_of.ensures) (All-pick (λ x. x < 8) corners _ (All-permutation 8 corners c.requires.corners)
    (All-places 8 4 _ corners (IsPlaceSet-places_in 8 4 c.args.tetrad.now corners c.requires.tetrad c.requires.corners) c.requires.corners.size))
