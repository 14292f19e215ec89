use Rattle.std.proofs.Common.{lit<, lit≤}
use Rattle.scr_tetra.proofs.SkewbDigits.{twists-four}
use Rattle.scr_tetra.proofs.skewb_numbers.number_of_four_twists.Goals as goal

pub rank-requires : goal.rank-requires
rank-requires c = (
  lit< tt,
  (
    (lit≤ tt, lit≤ tt),
    ((lit≤ tt, lit≤ tt), twists-four c.args.skewb.now c.four_twists.result c.three.result c.requires c.four_twists.ensures.same c.three.ensures.same),
  ),
)
