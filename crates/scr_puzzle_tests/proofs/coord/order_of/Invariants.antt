use Rattle.std.proofs.Common.{◌<◌}
use Rattle.scr_puzzle_tests.proofs.coord.order_of.Given as goal

abbrev pub invariant-loop-made : goal.invariant-loop-made
invariant-loop-made g l = l.position < (g.C.Coord.coordinate l.coord).count
