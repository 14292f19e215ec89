use Rattle.std.proofs.Common.{IsTrue, sym, subst}
use Rattle.std.specs.Prelude.{◌↔◌}
use Rattle.scr_combinatorics.specs.Reach.{Needs}
use Rattle.scr_sq1.specs.Units.{sq1_puzzle}
use Rattle.scr_sq1solve.proofs.MinimaLaws.{needs_test-iff}
use Rattle.scr_sq1solve.proofs.minima.needs_sq1.Goals as goal

pub returns-clause-exact : goal.returns-clause-exact
returns-clause-exact c =
    let s = c.args.state.now in
    subst (λ b. IsTrue b ↔ Needs sq1_puzzle s c.args.least) (sym c.needs_at_least.ensures) (needs_test-iff s c.args.least c.is_valid.ensures)
