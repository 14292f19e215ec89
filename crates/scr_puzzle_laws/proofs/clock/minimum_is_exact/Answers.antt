use Rattle.scr_clock.proofs.LeastLaws.{needs_test-iff}
use Rattle.scr_puzzle_laws.proofs.clock.minimum_is_exact.Goals as goal

pub returns : goal.returns
returns c = needs_test-iff
