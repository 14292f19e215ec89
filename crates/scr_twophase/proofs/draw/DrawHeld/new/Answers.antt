use Rattle.scr_twophase.proofs.HeldScrambles.{Needs-held_tested}
use Rattle.scr_twophase.proofs.draw.DrawHeld.new.Goals as goal

pub invariant_of-result : goal.invariant_of-result
invariant_of-result c = record { exact = Needs-held_tested }
