use Rattle.scr_space.proofs.SpinLaws.{carried-exchange}
use Rattle.scr_laws.proofs.space.exchanges.Goals as goal

pub returns : goal.returns
returns c = carried-exchange
