use Rattle.std.proofs.Common.{true}
use Rattle.scr_draw.proofs.Tried.{IsTried}
use Rattle.scr_bigs.proofs.choosing.choose.Given as goal

abbrev pub invariant-loop-tried : goal.invariant-loop-tried
invariant-loop-tried g l =
    IsTried l.count (λ number. number) (λ _. true)
    (g.W.Words.word_at l.initial.words) (g.W.Words.taken l.initial.words) l.attempts
    (g.W.Words.word_at l.words) (g.W.Words.taken l.words) l.tried
