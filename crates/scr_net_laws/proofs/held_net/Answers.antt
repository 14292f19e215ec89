use Rattle.scr_net_laws.proofs.HeldNets.{held_nets}
use Rattle.scr_net_laws.proofs.held_net.Goals as goal

pub returns : goal.returns
returns c = held_nets c.args.scramble.now.turns c.requires
