use Rattle.scr_sq1solve.proofs.ShortestLaws.{IsShortScramble-one}
use Rattle.scr_solver_laws.proofs.sq1solve.short_of_one_word.Goals as goal

pub returns : goal.returns
returns c = IsShortScramble-one
