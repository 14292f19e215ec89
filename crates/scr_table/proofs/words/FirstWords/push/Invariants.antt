use Rattle.std.proofs.Common.{◌≡◌, take}
use Rattle.scr_table.proofs.words.FirstWords.push.Given as goal

abbrev pub invariant-loop-turn : goal.invariant-loop-turn
invariant-loop-turn l = l.copy.items ≡ take l.turn-index l.word
