use Rattle.std.proofs.Common.{sym}
use Rattle.scr_read.proofs.LineLemmas.{first_cut}
use Rattle.scr_read.proofs.lines.first_line.Goals as goal

pub returns-in-Some : goal.returns-in-Some
returns-in-Some c = first_cut c.args.text.now c.in-Some.end (sym c.in-Some.ensures.place)
