use Rattle.scr_draw.proofs.Accepted.{answered_equally}
use Rattle.scr_draw.proofs.Fairness.{state_equally}
use Rattle.scr_laws.proofs.draw.each_equally.Goals as goal

pub returns-clause-numbers : goal.returns-clause-numbers
returns-clause-numbers g c = λ i below. answered_equally (g.P.NumberedStates.numbered c.args.puzzle.now).count i below

pub returns-clause-states : goal.returns-clause-states
returns-clause-states g c = λ s valid. state_equally _ c.count.ensures.numbering s valid
