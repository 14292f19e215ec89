use Rattle.std.proofs.Common.{◌≡◌, ◌-◌, ◌≤◌, length}
use Rattle.scr_check.specs.Reading.{reading, source_name, Takes}
use Rattle.scr_check.specs.Lines.{IsPlain}
use Rattle.scr_check.proofs.line.read_line.Given as goal

abbrev pub invariant-loop-reader : goal.invariant-loop-reader
invariant-loop-reader g l = record {
  same_source : source_name l.reader ≡ source_name l.fn.reader;
  few : length l.text.items ≤ 1301;
  plain : IsPlain l.text.items;
  taken : Takes g.S.Source.left g.S.Source.faults g.S.Source.ends (reading l.fn.reader) (reading l.reader) l.text.items;
}

abbrev pub decreases-loop-reader : goal.decreases-loop-reader
decreases-loop-reader g l = 1301 - length l.text.items
