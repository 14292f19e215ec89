use Rattle.scr_net_laws.proofs.PlayedNets.{corners_nets}
use Rattle.scr_net_laws.proofs.corners_net.Goals as goal

pub returns : goal.returns
returns c = corners_nets c.args.scramble.now.turns c.requires
