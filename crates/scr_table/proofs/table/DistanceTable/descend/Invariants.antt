use Rattle.scr_table.proofs.DescentLaws.{IsDescending}
use Rattle.scr_table.proofs.table.DistanceTable.descend.Given as goal

abbrev pub invariant-loop-lower : goal.invariant-loop-lower
invariant-loop-lower g l = IsDescending (g.C.Coord.coordinate l.coord) l.self l.position l.word.items l.at l.lower
