use Rattle.std.proofs.Common.{refl, sym, arith}
use Rattle.scr_orbit.proofs.Places.{turned-at}
use Rattle.scr_tetra.proofs.SkewbLaws.{skewb_turned}
use Rattle.scr_tetra.proofs.skewb_turned.SkewbPowerTurned.turned.Goals as goal

pub invariant_of-result : goal.invariant_of-result
invariant_of-result c =
    (skewb_turned (record { four = c.self.inside.four; three = c.self.inside.three; centres = c.self.inside.centres }) c.turned.result c.turned-2.result c.turned-3.result c.args.number c.self.invariant
    (turned-at 3 c.four_turns.result.now c.args.number _ refl c.four_turns.ensures.defined (omega arith) c.turned.ensures)
    (turned-at 3 c.three_turns.result.now c.args.number _ refl c.three_turns.ensures.defined (omega arith) c.turned-2.ensures)
    (turned-at 1 c.centre_turns.result.now c.args.number _ refl c.centre_turns.ensures.defined (omega arith) c.turned-3.ensures)).valid

pub returns : goal.returns
returns c =
    rw (sym c.self.view_is)
    (skewb_turned (record { four = c.self.inside.four; three = c.self.inside.three; centres = c.self.inside.centres }) c.turned.result c.turned-2.result c.turned-3.result c.args.number c.self.invariant
    (turned-at 3 c.four_turns.result.now c.args.number _ refl c.four_turns.ensures.defined (omega arith) c.turned.ensures)
    (turned-at 3 c.three_turns.result.now c.args.number _ refl c.three_turns.ensures.defined (omega arith) c.turned-2.ensures)
    (turned-at 1 c.centre_turns.result.now c.args.number _ refl c.centre_turns.ensures.defined (omega arith) c.turned-3.ensures)).after
