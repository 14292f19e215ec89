use Rattle.std.proofs.Common.{◌<◌}
use Rattle.scr_combinatorics.proofs.PermutationLaws.{All-permutation}
use Rattle.scr_combinatorics.proofs.Picks.{All-pick}
use Rattle.scr_stages.specs.Tetrads.{first_tetrad}
use Rattle.scr_stages.proofs.Blocks.{All-place_set}
use Rattle.scr_stages.proofs.TetradLaws.{IsPlaceSet-first}
use Rattle.scr_stages.proofs.half_corners.HalfCornersCornerNumbers.list_at.Goals as goal

pub axes_of-requires : goal.axes_of-requires
axes_of-requires c =
    rw c.pick_into.ensures
    (All-pick (λ x. x < 8) first_tetrad c.unrank-order.result (All-place_set 0 8 first_tetrad IsPlaceSet-first.increasing)
    (All-permutation 4 c.unrank-order.result c.unrank-order.ensures.valid))
