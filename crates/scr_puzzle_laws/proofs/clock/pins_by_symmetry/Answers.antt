use Rattle.scr_puzzle_laws.proofs.OverLaws.{turned_over-turned}
use Rattle.scr_puzzle_laws.proofs.clock.pins_by_symmetry.Goals as goal

pub returns-clause-turned_over : goal.returns-clause-turned_over
returns-clause-turned_over c = turned_over-turned
