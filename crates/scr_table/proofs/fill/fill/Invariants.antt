use Rattle.scr_table.specs.Filled.{AreKnown}
use Rattle.scr_table.proofs.fill.fill.Given as goal

abbrev pub invariant-loop-level : goal.invariant-loop-level
invariant-loop-level g l = AreKnown (g.C.Coord.coordinate l.coord) l.level l.entries
