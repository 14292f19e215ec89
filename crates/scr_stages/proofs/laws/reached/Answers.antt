use Rattle.std.proofs.Common.{[], ◌∷◌}
use Rattle.scr_stages.proofs.SolutionLaws.{IsReached-iff}
use Rattle.scr_stages.proofs.laws.reached.Goals as goal

pub returns : goal.returns
returns c =
    let t = c.args.tables.now in IsReached-iff (t.flips ∷ t.slice ∷ t.tetrads ∷ t.halves ∷ []) t.built
