use Rattle.scr_table.specs.Filled.{AreMarked}
use Rattle.scr_table.proofs.fill.push_level.Given as goal

abbrev pub invariant-loop-start : goal.invariant-loop-start
invariant-loop-start g l = AreMarked (g.C.Coord.coordinate l.coord) l.entries
