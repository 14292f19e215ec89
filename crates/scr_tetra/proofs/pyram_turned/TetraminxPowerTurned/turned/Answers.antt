use Rattle.std.proofs.Common.{refl, sym, arith}
use Rattle.scr_orbit.proofs.InPlaceLaws.{added-at}
use Rattle.scr_orbit.proofs.Places.{turned-at}
use Rattle.scr_tetra.proofs.PyramLaws.{tetraminx_turned}
use Rattle.scr_tetra.proofs.pyram_turned.TetraminxPowerTurned.turned.Goals as goal

pub invariant_of-result : goal.invariant_of-result
invariant_of-result c =
    (tetraminx_turned (record { edges = c.self.inside.edges; axials = c.self.inside.axials }) c.turned.result c.turned_in_place.result c.args.number c.self.invariant
    (turned-at 2 c.edge_turns.result.now c.args.number _ refl c.edge_turns.ensures.defined (omega arith) c.turned.ensures)
    (added-at 3 c.axial_turns.result.now c.args.number _ refl c.axial_turns.ensures.defined (omega arith) c.turned_in_place.ensures)).valid

pub returns : goal.returns
returns c =
    rw (sym c.self.view_is)
    (tetraminx_turned (record { edges = c.self.inside.edges; axials = c.self.inside.axials }) c.turned.result c.turned_in_place.result c.args.number c.self.invariant
    (turned-at 2 c.edge_turns.result.now c.args.number _ refl c.edge_turns.ensures.defined (omega arith) c.turned.ensures)
    (added-at 3 c.axial_turns.result.now c.args.number _ refl c.axial_turns.ensures.defined (omega arith) c.turned_in_place.ensures)).after
