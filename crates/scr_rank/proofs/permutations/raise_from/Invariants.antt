use Rattle.std.proofs.Common.{◌≡◌, ◌++◌, drop, take, map}
use Rattle.scr_combinatorics.specs.Permutations.{nth_except}
use Rattle.scr_rank.proofs.permutations.raise_from.Given as goal

abbrev pub invariant-loop-number : goal.invariant-loop-number
invariant-loop-number l = l.list ≡ map (nth_except l.first) (take l.number-index l.initial.list) ++ drop l.number-index l.initial.list
