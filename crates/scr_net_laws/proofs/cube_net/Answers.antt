use Rattle.scr_net_laws.proofs.PlayedNets.{cube_nets}
use Rattle.scr_net_laws.proofs.cube_net.Goals as goal

pub returns : goal.returns
returns c = cube_nets c.args.scramble.now.turns c.requires
