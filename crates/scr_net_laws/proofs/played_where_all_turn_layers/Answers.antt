use Rattle.scr_combinatorics.proofs.PlayedWhere.{played-iff}
use Rattle.scr_net.proofs.LayerTurns.{TellsTurns-net}
use Rattle.scr_net_laws.proofs.played_where_all_turn_layers.Goals as goal

pub returns : goal.returns
returns c = λ side net w. played-iff (TellsTurns-net side) net w tt
