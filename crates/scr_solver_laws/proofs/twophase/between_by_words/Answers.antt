use Rattle.scr_twophase.proofs.FewestLaws.{between-played}
use Rattle.scr_solver_laws.proofs.twophase.between_by_words.Goals as goal

pub returns : goal.returns
returns c = between-played
