use Rattle.scr_run_laws.proofs.OneReading.{one-reading}
use Rattle.scr_run_laws.proofs.one_reading.Goals as goal

pub returns : goal.returns
returns c = one-reading
