use Rattle.std.proofs.Common.{refl}
use Rattle.scr_stages.specs.Numbers.{half_digits}
use Rattle.scr_stages.specs.Tetrads.{half_corners_number}
use Rattle.scr_cube.specs.Cube333.{solved_cube}
use Rattle.scr_orbit.specs.Orbits.{solved_orbit}
use Rattle.scr_stages.proofs.half_moves.HalfMovesCoord.is_goal.Goals as goal

pub returns : goal.returns
unfolding half_digits half_corners_number solved_cube solved_orbit
returns c = refl
