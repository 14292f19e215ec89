use Rattle.std.proofs.Common.{drop}
use Rattle.scr_outside.specs.Change.{change_of}
use Rattle.scr_outside.proofs.ChangeLemmas.{IsWrittenUpTo}
use Rattle.scr_text.specs.Lines.{text_of_lines}
use Rattle.scr_net.specs.NetText.{net_lines, net_text}
use Rattle.scr_net.proofs.writing.write_net.Given as goal

abbrev pub invariant-loop-place : goal.invariant-loop-place
invariant-loop-place g l =
    IsWrittenUpTo (change_of g.O.Sink.held g.O.Sink.faults l.fn.out l.out) (net_text g.row.SIDE l.fn.net)
    (text_of_lines (drop l.place (net_lines g.row.SIDE l.net)))
