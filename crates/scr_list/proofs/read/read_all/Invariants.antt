use Rattle.std.proofs.Common.{◌≡◌, ◌-◌, ◌≤◌, length, take}
use Rattle.scr_outside.specs.Change.{intake_of, Gives}
use Rattle.scr_list.proofs.read.read_all.Given as goal

abbrev pub invariant-loop-filled : goal.invariant-loop-filled
invariant-loop-filled g l = record {
  within : l.filled ≤ length l.buffer;
  taken : Gives (intake_of g.S.Source.left g.S.Source.faults g.S.Source.ends l.fn.source l.source) (take l.filled l.buffer);
  no_end : g.S.Source.ends l.source ≡ g.S.Source.ends l.fn.source;
}

abbrev pub decreases-loop-filled : goal.decreases-loop-filled
decreases-loop-filled g l = length l.buffer - l.filled
