use Rattle.std.proofs.Common.{drop}
use Rattle.scr_outside.specs.Change.{change_of}
use Rattle.scr_outside.proofs.ChangeLemmas.{IsWrittenUpTo}
use Rattle.scr_text.specs.Lines.{text_of_lines}
use Rattle.scr_table_text.specs.TableText.{count_lines}
use Rattle.scr_table_text.proofs.writing.write_counts.Given as goal

abbrev pub invariant-loop-distance : goal.invariant-loop-distance
invariant-loop-distance g l =
    IsWrittenUpTo (change_of g.O.Sink.held g.O.Sink.faults l.fn.out l.out) (text_of_lines (count_lines 0 l.counts))
    (text_of_lines (count_lines l.distance (drop l.distance l.counts)))
