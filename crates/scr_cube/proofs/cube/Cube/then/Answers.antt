use Rattle.std.proofs.Common.{sym, subst}
use Rattle.scr_cube.specs.Cube333.{CubeState, IsCube, cube_monoid}
use Rattle.scr_cube.proofs.Laws333.{same_cube, cube_laws}
use Rattle.scr_cube.proofs.cube.Cube.then.Goals as goal

pub invariant_of-result : goal.invariant_of-result
invariant_of-result c =
    let first : CubeState = record { corners = c.self.inside.corners; edges = c.self.inside.edges } in
    let second : CubeState = record { corners = c.next.inside.corners; edges = c.next.inside.edges } in
    subst IsCube (sym (same_cube _ (cube_monoid.turned first second) c.then.ensures c.then-2.ensures))
    (cube_laws.kept first second c.self.invariant c.next.invariant)
