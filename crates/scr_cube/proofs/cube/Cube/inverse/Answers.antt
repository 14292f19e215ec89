use Rattle.std.proofs.Common.{sym}
use Rattle.scr_cube.proofs.CompositionLaws.{IsInverse-parts}
use Rattle.scr_cube.proofs.cube.Cube.inverse.Goals as goal

pub invariant_of-result : goal.invariant_of-result
invariant_of-result c =
    (IsInverse-parts _ c.inverse.result c.inverse-2.result c.self.invariant c.inverse.ensures c.inverse-2.ensures).valid

pub returns-clause-inverse : goal.returns-clause-inverse
returns-clause-inverse c =
    rw (sym c.self.view_is)
    (IsInverse-parts _ c.inverse.result c.inverse-2.result c.self.invariant c.inverse.ensures c.inverse-2.ensures)
