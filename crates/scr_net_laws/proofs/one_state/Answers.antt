use Rattle.scr_net_laws.proofs.OneNet.{one_corners, one_cube, one_held}
use Rattle.scr_net_laws.proofs.one_state.Goals as goal

pub returns : goal.returns
returns c = record { cube = one_cube; held = one_held; corners = one_corners }
