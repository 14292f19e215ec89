use Rattle.scr_stages.proofs.SolutionLaws.{tetrads_number-built}
use Rattle.scr_solver_laws.proofs.stages.half_turned.Goals as goal

pub returns : goal.returns
returns c = λ tables built cube h d. tetrads_number-built tables built cube (record { cube = h; domino = d })
