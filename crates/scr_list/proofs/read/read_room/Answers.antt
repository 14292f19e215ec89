use Rattle.std.proofs.Common.{arith}
use Rattle.scr_list.proofs.ReadLemmas.{most_read-range}
use Rattle.scr_list.proofs.read.read_room.Goals as goal

pub returns : goal.returns
returns c = grind (arith, most_read-range)
