use Rattle.std.proofs.Common.{lit<}
use Rattle.scr_draw.proofs.RowLaws.{row_reached}
use Rattle.scr_tests.proofs.draw.is_reached.Goals as goal

pub returns : goal.returns
returns c = λ s. row_reached 3674160 s (lit< tt)
