use Rattle.scr_orbit.proofs.OrbitLaws.{orbit_laws, zero_sum_laws}
use Rattle.scr_orbit.proofs.InPlaceLaws.{in_place_laws}
use Rattle.scr_laws.proofs.orbit.monoids.Goals as goal

pub returns : goal.returns
returns c = record { orbits = orbit_laws; zero_sums = zero_sum_laws; in_place = in_place_laws }
