use Rattle.scr_sq1far.proofs.Alternation.{Needs-both, of_on_true, is_true-unless}
use Rattle.scr_sq1far.proofs.near.needs_sq1_far.Goals as goal

pub returns-then-needs_by : goal.returns-then-needs_by
returns-then-needs_by c = (
  λ is. Needs-both c.args.state.now c.args.least c.if-needs_by.ensures.valid c.if-needs_by.ensures.needed
      (of_on_true c.needs_by-then-needs_by.result is c.needs_by-then-needs_by.ensures.needed),
  λ needs. is_true-unless c.needs_by-then-needs_by.result c.needs_by-then-needs_by.ensures.refused needs,
)
