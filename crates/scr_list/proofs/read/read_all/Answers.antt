use Rattle.std.proofs.Common.{arith}
use Rattle.std.proofs.lemmas.Grind.{common_steps}
use Rattle.scr_outside.proofs.ChangeLemmas.{Gives-append, ends_told-some}
use Rattle.scr_list.proofs.ReadLemmas.{take-put_mid}
use Rattle.scr_list.proofs.read.read_all.Goals as goal

pub loop-filled-preserved : goal.loop-filled-preserved
loop-filled-preserved g c = grind (arith, common_steps, take-put_mid, Gives-append, ends_told-some)
