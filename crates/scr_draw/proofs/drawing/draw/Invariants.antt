use Rattle.scr_draw.proofs.Tried.{IsTried}
use Rattle.scr_draw.proofs.drawing.draw.Given as goal

abbrev pub invariant-loop-tried : goal.invariant-loop-tried
invariant-loop-tried g l =
    let n = g.P.NumberedStates.numbered l.puzzle in
    IsTried n.count n.state_at (λ s. g.P.Permit.needs l.puzzle s l.least)
    (g.W.Words.word_at l.initial.words) (g.W.Words.taken l.initial.words) l.attempts
    (g.W.Words.word_at l.words) (g.W.Words.taken l.words) l.tried
