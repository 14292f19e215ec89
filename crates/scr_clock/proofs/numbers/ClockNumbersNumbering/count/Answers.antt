use Rattle.scr_clock.proofs.LeastLaws.{needs_test-iff}
use Rattle.scr_clock.proofs.numbers.ClockNumbersNumbering.count.Goals as goal

pub returns-clause-told : goal.returns-clause-told
returns-clause-told c = needs_test-iff
