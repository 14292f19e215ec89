-- Laws of the turns of a 2x2x2: its states are a monoid, each face's quarter turn has order 4, and what follows of that.
use Rattle.std.proofs.Common.{refl, lit<, lit≤}
use Rattle.scr_orbit.specs.Monoids.{power}
use Rattle.scr_orbit.specs.Orbits.{turned_orbit, added_digits, solved_orbit}
use Rattle.scr_orbit.specs.PowerPuzzles.{IsPowerPuzzle}
use Rattle.scr_orbit.proofs.OrbitLaws.{zero_sum_laws}
use Rattle.scr_orbit.proofs.Orders.{tells_orbit}
use Rattle.scr_orbit.proofs.TableTests.{is_still, is_zero_sum, IsZeroSumOrbit-from_test}
use Rattle.scr_orbit.proofs.PowerPuzzleLaws.{IsPowerPuzzle-from_test}
use Rattle.scr_notation.specs.Turning.{opposite, turn_merging}
use Rattle.scr_notation.proofs.FaceLaws.{face_powers, faces_numbered}
use Rattle.scr_cube.specs.Cube222.{IsCorners222, powers_222}

pub lawful_222 : IsPowerPuzzle powers_222 IsCorners222 opposite turn_merging
unfolding power turned_orbit solved_orbit added_digits
lawful_222 =
    IsPowerPuzzle-from_test powers_222 IsCorners222 (record { numbered = faces_numbered; powers = face_powers; few = lit≤ tt })
    (zero_sum_laws 7 3 (lit< tt)) (is_still 7) (tells_orbit 7 3) (is_zero_sum 7 3) (IsZeroSumOrbit-from_test 7 3) refl
