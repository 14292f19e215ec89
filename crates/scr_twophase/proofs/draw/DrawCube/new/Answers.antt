use Rattle.scr_twophase.proofs.MinimaLaws.{Needs-tested}
use Rattle.scr_twophase.proofs.draw.DrawCube.new.Goals as goal

pub invariant_of-result : goal.invariant_of-result
invariant_of-result g c = record { exact = Needs-tested }
