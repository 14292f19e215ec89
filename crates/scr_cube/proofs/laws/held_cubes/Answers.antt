use Rattle.scr_cube.proofs.HeldReach.{IsReached-cube, IsReached-held, from_solved, Needs-held}
use Rattle.scr_cube.proofs.laws.held_cubes.Goals as goal

pub returns : goal.returns
returns c = record {
  reached = IsReached-held;
  from_solved = λ s h. let cube = IsReached-cube s h in from_solved s cube.0 cube.1;
  needs = Needs-held;
}
