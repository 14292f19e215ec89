use Rattle.std.proofs.Common.{◌≡◌, ◌+◌, ◌≤◌, [], All, length}
use Rattle.scr_pages.specs.Slots.{IsBarred}
use Rattle.scr_pages.specs.Marked.{with_groups}
use Rattle.scr_pages.specs.Passes.{Passes}
use Rattle.scr_pages.proofs.survey.surveyed.Given as goal

abbrev pub invariant-groups : goal.invariant-groups
invariant-groups l = record {
  passed : Passes IsBarred l.fn.groups l.groups;
  marked : with_groups l.marks.items l.groups ≡ with_groups [] l.fn.groups;
  counted : l.count + length l.groups ≡ length l.fn.groups;
  lines : All (λ group. group.line ≤ 65536) l.groups;
}

abbrev pub decreases-groups : goal.decreases-groups
decreases-groups l = length l.groups
