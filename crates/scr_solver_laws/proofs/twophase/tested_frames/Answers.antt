use Rattle.std.proofs.Common.{◌∙◌, ap}
use Rattle.scr_twophase.specs.Fewest.{is_framed}
use Rattle.scr_twophase.proofs.FewestLaws.{is_framed-framed, is_framed-is}
use Rattle.scr_solver_laws.proofs.twophase.tested_frames.Goals as goal

pub returns : goal.returns
returns c = λ turns. (λ is. is_framed-is turns is, λ framed. ap is_framed framed.whole ∙ is_framed-framed framed.middle)
