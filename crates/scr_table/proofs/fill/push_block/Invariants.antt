use Rattle.scr_table.specs.Filled.{AreMarked}
use Rattle.scr_table.proofs.fill.push_block.Given as goal

abbrev pub invariant-loop-position : goal.invariant-loop-position
invariant-loop-position g l = AreMarked (g.C.Coord.coordinate l.coord) l.entries

abbrev pub invariant-loop-turn : goal.invariant-loop-turn
invariant-loop-turn g l = AreMarked (g.C.Coord.coordinate l.coord) l.entries

abbrev pub invariant-loop-turn-then-entries-position : goal.invariant-loop-turn-then-entries-position
invariant-loop-turn-then-entries-position g l = AreMarked (g.C.Coord.coordinate l.coord) l.entries
