use Rattle.std.proofs.Common.{◌-◌, ◌≤◌, length, take}
use Rattle.scr_outside.specs.Change.{change_of, Gains}
use Rattle.scr_outside.proofs.sink.write_all.Given as goal

abbrev pub invariant-loop-written : goal.invariant-loop-written
invariant-loop-written g l = record {
  within : l.written ≤ length l.piece;
  gains : Gains (change_of g.O.Sink.held g.O.Sink.faults l.fn.out l.out) (take l.written l.piece);
}

abbrev pub decreases-loop-written : goal.decreases-loop-written
decreases-loop-written g l = length l.piece - l.written
