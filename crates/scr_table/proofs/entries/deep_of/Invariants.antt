use Rattle.std.proofs.Common.{◌≡◌}
use Rattle.scr_table.specs.Halves.{deep_below}
use Rattle.scr_table.proofs.entries.deep_of.Given as goal

abbrev pub invariant-loop-position : goal.invariant-loop-position
invariant-loop-position l = l.deep.items ≡ deep_below l.numbers l.position
