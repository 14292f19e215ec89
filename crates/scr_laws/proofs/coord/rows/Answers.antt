use Rattle.std.proofs.Common.{refl}
use Rattle.scr_orbit.specs.Orbits.{added_digits}
use Rattle.scr_laws.proofs.coord.rows.Goals as goal

pub returns-clause-digits : goal.returns-clause-digits
unfolding added_digits
returns-clause-digits c = refl
