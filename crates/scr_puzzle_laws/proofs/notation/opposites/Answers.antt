use Rattle.scr_notation.proofs.OppositeLaws.{permits-opposite, opposite-opposite}
use Rattle.scr_puzzle_laws.proofs.notation.opposites.Goals as goal

pub returns-clause-of_event : goal.returns-clause-of_event
returns-clause-of_event c = permits-opposite

pub returns-clause-twice : goal.returns-clause-twice
returns-clause-twice c = opposite-opposite
