use Rattle.scr_stages.proofs.HalfSteps.{number-by_parts}
use Rattle.scr_stages.proofs.half_parts.half_number.Goals as goal

pub returns-clause-number : goal.returns-clause-number
returns-clause-number c = λ cube is. number-by_parts cube _ _ _ _ is
