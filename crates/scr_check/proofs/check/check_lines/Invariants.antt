use Rattle.std.proofs.Common.{◌≡◌, ◌-◌, ◌≤◌}
use Rattle.scr_check.specs.Reading.{reading, source_name}
use Rattle.scr_check.proofs.CheckLemmas.{IsAgreed}
use Rattle.scr_check.proofs.check.check_lines.Given as goal

abbrev pub invariant-loop-line : goal.invariant-loop-line
invariant-loop-line g l = record {
  same_source : source_name l.reader ≡ source_name l.fn.reader;
  line : l.line ≤ l.count;
  agreed : IsAgreed g.S.Source.left g.S.Source.faults g.S.Source.ends (reading l.fn.reader) (reading l.reader) (g.X.Expected.lines l.expected) l.line;
}

abbrev pub decreases-loop-line : goal.decreases-loop-line
decreases-loop-line g l = l.count - l.line
