use Rattle.scr_check.proofs.CutLemmas.{joined-cut}
use Rattle.scr_text_laws.proofs.CheckLemmas.{cut-shape, only-cut}
use Rattle.scr_text_laws.proofs.check.lines_of_a_text.Goals as goal

pub returns : goal.returns
returns c = record { joined = joined-cut; shape = cut-shape; only = only-cut }
