use Rattle.std.proofs.Common.{◌≡◌, Some, take}
use Rattle.scr_combinatorics.specs.Play.{play}
use Rattle.scr_net.specs.Nets.{net_after}
use Rattle.scr_net.proofs.net.Net.play.Given as goal

abbrev pub invariant-loop-turn : goal.invariant-loop-turn
invariant-loop-turn g l = play (net_after g.row.SIDE) l.self (take l.turn-index l.turn-items) ≡ Some l.net
