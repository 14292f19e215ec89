use Rattle.std.proofs.Common.{ap}
use Rattle.scr_combinatorics.specs.Lists.{numbers_from}
use Rattle.scr_cube.specs.Held.{solved_held}
use Rattle.scr_cube.proofs.HeldReach.{Contains-solved}
use Rattle.scr_cube.proofs.held.Held.solved.Goals as goal

pub invariant_of-result : goal.invariant_of-result
invariant_of-result c = Contains-solved

pub returns : goal.returns
unfolding solved_held
returns c = ap (λ cube. record { cube = cube; centres = numbers_from 0 6 }) c.solved.ensures
