use Rattle.scr_table.specs.Filled.{AreMarked}
use Rattle.scr_table.proofs.fill.push_levels.Given as goal

abbrev pub invariant-loop-level : goal.invariant-loop-level
invariant-loop-level g l = AreMarked (g.C.Coord.coordinate l.coord) l.entries
