use Rattle.std.proofs.Common.{◌≤◌, All, length}
use Rattle.scr_pages.specs.Slots.{IsNear}
use Rattle.scr_pages.specs.Passes.{Passes}
use Rattle.scr_pages.proofs.survey.look.Given as goal

abbrev pub invariant-groups : goal.invariant-groups
invariant-groups l = record {
  passed : Passes IsNear l.fn.groups l.groups;
  lines : All (λ group. group.line ≤ 65536) l.groups;
}

abbrev pub decreases-groups : goal.decreases-groups
decreases-groups l = length l.groups
