use Rattle.scr_table_text.proofs.CountLaws.{IsTableText-measured}
use Rattle.scr_laws.proofs.table_text.measured.Goals as goal

pub returns : goal.returns
returns c = IsTableText-measured
