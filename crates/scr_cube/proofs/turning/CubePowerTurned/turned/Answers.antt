use Rattle.std.proofs.Common.{refl, sym, arith}
use Rattle.scr_orbit.proofs.Places.{turned-at}
use Rattle.scr_cube.proofs.Laws333.{cube_turned}
use Rattle.scr_cube.proofs.turning.CubePowerTurned.turned.Goals as goal

pub invariant_of-result : goal.invariant_of-result
invariant_of-result c =
    (cube_turned (record { corners = c.self.inside.corners; edges = c.self.inside.edges }) c.turned.result c.turned-2.result c.args.number c.self.invariant
    (turned-at 3 c.corner_turns.result.now c.args.number _ refl c.corner_turns.ensures.defined (omega arith) c.turned.ensures)
    (turned-at 2 c.edge_turns.result.now c.args.number _ refl c.edge_turns.ensures.defined (omega arith) c.turned-2.ensures)).valid

pub returns : goal.returns
returns c =
    rw (sym c.self.view_is)
    (cube_turned (record { corners = c.self.inside.corners; edges = c.self.inside.edges }) c.turned.result c.turned-2.result c.args.number c.self.invariant
    (turned-at 3 c.corner_turns.result.now c.args.number _ refl c.corner_turns.ensures.defined (omega arith) c.turned.ensures)
    (turned-at 2 c.edge_turns.result.now c.args.number _ refl c.edge_turns.ensures.defined (omega arith) c.turned-2.ensures)).after
