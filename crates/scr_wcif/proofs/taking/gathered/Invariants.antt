use Rattle.std.proofs.Common.{◌≡◌, [], length}
use Rattle.scr_wcif.specs.Gathering.{with_groups}
use Rattle.scr_wcif.proofs.taking.gathered.Given as goal

abbrev pub invariant-groups : goal.invariant-groups
invariant-groups l = with_groups l.rounds.items l.groups ≡ with_groups [] l.fn.groups

abbrev pub decreases-groups : goal.decreases-groups
decreases-groups l = length l.groups
