use Rattle.std.proofs.Common.{refl, sym, arith}
use Rattle.scr_orbit.proofs.Places.{turned-at}
use Rattle.scr_orbit.proofs.TurnedAt.{IsTurned-made}
use Rattle.scr_cube.specs.Cube222.{powers_222}
use Rattle.scr_cube.proofs.Laws222.{lawful_222}
use Rattle.scr_cube.proofs.turning.Corners222PowerTurned.turned.Goals as goal

pub invariant_of-result : goal.invariant_of-result
invariant_of-result c =
    (IsTurned-made powers_222 lawful_222 c.self.inside.corners c.turned.result c.args.number c.self.invariant
    (turned-at 3 c.turns_222.result.now c.args.number _ refl c.turns_222.ensures.defined (omega arith) c.turned.ensures)).valid

pub returns : goal.returns
returns c =
    rw (sym c.self.view_is)
    (IsTurned-made powers_222 lawful_222 c.self.inside.corners c.turned.result c.args.number c.self.invariant
    (turned-at 3 c.turns_222.result.now c.args.number _ refl c.turns_222.ensures.defined (omega arith) c.turned.ensures)).after
