use Rattle.std.proofs.Common.{◌≡◌, subst, sym, arith}
use Rattle.scr_combinatorics.specs.Permutations.{IsPermutation}
use Rattle.scr_stages.specs.Tetrads.{corners_at}
use Rattle.scr_stages.proofs.Cited.{corners_at as cited}
use Rattle.scr_stages.proofs.TetradTests.{corners_indexed}
use Rattle.scr_stages.proofs.corners.CornerIndexesCornerNumbers.list_at.Goals as goal

pub returns-clause-valid : goal.returns-clause-valid
unfolding corners_at
returns-clause-valid c =
    let same : c.arrange.new.out ≡ corners_at c.args.position = grind (arith, cited) in
    let own = corners_indexed c.args.position c.requires in
    subst (IsPermutation 8) (sym same) own.permutation
