use Rattle.scr_orbit.proofs.OrbitLaws.{total-turned, parity-turned}
use Rattle.scr_laws.proofs.orbit.sums.Goals as goal

pub returns-clause-digits : goal.returns-clause-digits
returns-clause-digits c = total-turned

pub returns-clause-parity : goal.returns-clause-parity
returns-clause-parity c n m o r a b = parity-turned n m o r a.pieces b.pieces
