use Rattle.std.proofs.Common.{ℕ, ◌+◌, ◌<◌}
use Rattle.scr_workers.specs.Answered.{HasAnswer}
use Rattle.scr_workers.proofs.chunks.answer_chunk.Given as goal

abbrev pub invariant-loop-k : goal.invariant-loop-k
invariant-loop-k g l = (k : ℕ) → k < l.k → HasAnswer (λ j. g.J.Jobs.is_answer l.jobs (l.start + j)) l.part k
