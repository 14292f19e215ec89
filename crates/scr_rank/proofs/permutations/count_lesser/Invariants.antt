use Rattle.std.proofs.Common.{◌≡◌, ◌+◌, ◌≤◌, drop}
use Rattle.scr_combinatorics.specs.Lists.{lesser_count}
use Rattle.scr_rank.proofs.permutations.count_lesser.Given as goal

abbrev pub invariant-loop-other : goal.invariant-loop-other
invariant-loop-other l = record {
  within : l.count ≤ l.other-index;
  counted : l.count + lesser_count l.number (drop l.other-index l.list) ≡ lesser_count l.number l.list;
}
