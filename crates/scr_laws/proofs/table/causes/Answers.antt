use Rattle.scr_table.proofs.LineLaws.{IsCauseOf-before, IsCauseOf-behind, no_gaps}
use Rattle.scr_laws.proofs.table.causes.Goals as goal

pub returns : goal.returns
returns _ = record { before = IsCauseOf-before; behind = IsCauseOf-behind; no_gaps = no_gaps }
