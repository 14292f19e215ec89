use Rattle.std.proofs.Common.{◌≡◌, ◌+◌, ◌-◌, vec_len}
use Rattle.scr_outside.specs.Change.{intake_of, Gives}
use Rattle.scr_host.specs.Input.{most_bytes}
use Rattle.scr_host.proofs.input.read_input.Given as goal

abbrev pub invariant-pieces : goal.invariant-pieces
invariant-pieces g l = record {
  taken : Gives (intake_of g.S.Source.left g.S.Source.faults g.S.Source.ends l.fn.source l.source) l.bytes.items;
  no_end : g.S.Source.ends l.source ≡ g.S.Source.ends l.fn.source;
}

abbrev pub decreases-pieces : goal.decreases-pieces
decreases-pieces g l = (most_bytes + 1) - vec_len l.bytes
