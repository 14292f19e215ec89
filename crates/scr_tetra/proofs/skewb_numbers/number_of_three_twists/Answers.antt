use Rattle.std.proofs.Common.{[], ◌∷◌, ◌/◌, ap, ◌∙◌, lit<, lit≤}
use Rattle.scr_combinatorics.specs.Digits.{mixed_number}
use Rattle.scr_tetra.proofs.SkewbDigits.{twists-three}
use Rattle.scr_tetra.proofs.skewb_numbers.number_of_three_twists.Goals as goal

pub rank-requires : goal.rank-requires
rank-requires c =
    let behind = twists-three c.args.skewb.now c.three_twists.result c.four.result c.class_of.result c.requires c.three_twists.ensures.same c.four.ensures.same c.class_of.ensures in
    (lit< tt, ((lit≤ tt, lit≤ tt), ((lit≤ tt, lit≤ tt), behind.twists)))

pub returns : goal.returns
returns c =
    let behind = twists-three c.args.skewb.now c.three_twists.result c.four.result c.class_of.result c.requires c.three_twists.ensures.same c.four.ensures.same c.class_of.ensures in
    ap (λ n. n / 3) c.rank.ensures.number ∙ behind.number ∙ ap (mixed_number (3 ∷ 3 ∷ [])) c.three_twists.ensures.same
