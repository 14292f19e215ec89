-- What even turns make of orbits whose pieces are an even list.
use Rattle.std.proofs.Common.{ℕ, arith}
use Rattle.scr_combinatorics.specs.Permutations.{IsPermutation, IsEven}
use Rattle.scr_orbit.specs.Orbits.{Orbit, turned_orbit}
use Rattle.scr_orbit.proofs.OrbitLaws.{parity-turned}

pub even-turned : (n m : ℕ) (o r : Orbit) → IsPermutation n o.pieces → IsPermutation n r.pieces → IsEven o.pieces
    → IsEven r.pieces → IsEven (turned_orbit m o r).pieces
even-turned n m o r h k e f = omega (arith, parity-turned n m o r h k, e, f)
