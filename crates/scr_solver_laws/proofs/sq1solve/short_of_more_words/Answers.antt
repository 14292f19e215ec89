use Rattle.scr_sq1solve.proofs.ShortestLaws.{fewer_by_more}
use Rattle.scr_solver_laws.proofs.sq1solve.short_of_more_words.Goals as goal

pub returns : goal.returns
returns c = fewer_by_more
