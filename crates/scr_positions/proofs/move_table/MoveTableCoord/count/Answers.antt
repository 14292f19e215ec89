use Rattle.scr_positions.proofs.StaysBelowLaws.{StaysBelow-moves}
use Rattle.scr_positions.proofs.move_table.MoveTableCoord.count.Goals as goal

pub returns-clause-stays_below : goal.returns-clause-stays_below
returns-clause-stays_below c = StaysBelow-moves c.args.self.now
