use Rattle.scr_sq1solve.proofs.Solutions.{twists-solution, IsWithinBounds-scramble}
use Rattle.scr_solver_laws.proofs.sq1solve.bounds.Goals as goal

pub returns : goal.returns
returns c = record { solution = twists-solution; scramble = IsWithinBounds-scramble }
