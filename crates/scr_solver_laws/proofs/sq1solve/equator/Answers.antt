use Rattle.scr_sq1solve.proofs.Solutions.{equator-played, equator-solution}
use Rattle.scr_solver_laws.proofs.sq1solve.equator.Goals as goal

pub returns : goal.returns
returns c = record { counted = equator-solution; word = equator-played }
