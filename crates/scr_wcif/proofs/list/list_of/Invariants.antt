use Rattle.std.proofs.Common.{◌≡◌, ◌≤◌, ◌++◌, drop, length}
use Rattle.std.specs.Prelude.{All}
use Rattle.scr_list.specs.Rounds.{IsRound}
use Rattle.scr_wcif.specs.Listed.{HasUsual, listed_rounds}
use Rattle.scr_wcif.proofs.list.list_of.Given as goal

abbrev pub invariant-loop-round : goal.invariant-loop-round
invariant-loop-round l = record {
  rounds : l.rounds.items ++ listed_rounds (drop l.round-index l.named) ≡ listed_rounds l.named;
  valid : All IsRound l.rounds.items;
  usual : All HasUsual l.rounds.items;
  few : length l.rounds.items ≤ l.round-index;
}
