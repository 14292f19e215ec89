use Rattle.std.proofs.Common.{◌≡◌, ◌+◌}
use Rattle.scr_tests.proofs.words.expect_words.Given as goal

abbrev pub invariant-loop-word : goal.invariant-loop-word
invariant-loop-word g l = g.W.Words.taken l.words ≡ g.W.Words.taken l.initial.words + l.word-index
