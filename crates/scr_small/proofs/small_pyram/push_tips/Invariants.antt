use Rattle.std.proofs.Common.{◌≡◌, ◌++◌, ◌≤◌, ◌+◌, drop, length}
use Rattle.scr_notation.specs.declared.event.Event.TheVariants.{Pyram}
use Rattle.scr_small.proofs.TipsWord.{tips_word_from}
use Rattle.scr_small.proofs.small_pyram.push_tips.Given as goal

abbrev pub invariant-loop-tip : goal.invariant-loop-tip
invariant-loop-tip l = record {
  event : l.scramble.event ≡ Pyram;
  turns : l.scramble.turns ++ tips_word_from l.tip (drop l.tip l.tips) ≡ l.initial.scramble.turns ++ tips_word_from 0 l.tips;
  room : length l.scramble.turns ≤ length l.initial.scramble.turns + l.tip;
}
