use Rattle.scr_table.proofs.FilledLaws.{IsLeast}
use Rattle.scr_table.proofs.neighbours.least_neighbour.Given as goal

abbrev pub invariant-loop-turn : goal.invariant-loop-turn
invariant-loop-turn g l = IsLeast (g.C.Coord.coordinate l.coord) l.entries l.position l.turn l.least
