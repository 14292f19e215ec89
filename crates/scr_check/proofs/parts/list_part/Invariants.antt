use Rattle.std.proofs.Common.{◌≡◌, ◌-◌, length}
use Rattle.scr_check.specs.Reading.{reading, source_name, Takes}
use Rattle.scr_check.proofs.ListLemmas.{IsListSoFar}
use Rattle.scr_check.proofs.parts.list_part.Given as goal

abbrev pub invariant-loop-reader : goal.invariant-loop-reader
invariant-loop-reader g l = record {
  same_source : source_name l.reader ≡ source_name l.fn.reader;
  so_far : IsListSoFar l.start l.text.items;
  taken : Takes g.S.Source.left g.S.Source.faults g.S.Source.ends (reading l.fn.reader) (reading l.reader) l.text.items;
}

abbrev pub decreases-loop-reader : goal.decreases-loop-reader
decreases-loop-reader g l = 16390 - length l.text.items
