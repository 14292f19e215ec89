use Rattle.std.proofs.Common.{◌≡◌, drop}
use Rattle.scr_pages.proofs.program.skip.Given as goal

abbrev pub invariant-loop-group : goal.invariant-loop-group
invariant-loop-group l = l.groups ≡ drop l._group l.fn.groups
