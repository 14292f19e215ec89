use Rattle.scr_table.proofs.MovesLaws.{AreTried}
use Rattle.scr_table.proofs.moves.+is_within.Given as goal

abbrev pub decreases-is_within : goal.decreases-is_within
decreases-is_within g l = l.most

abbrev pub invariant-loop-turn : goal.invariant-loop-turn
invariant-loop-turn g l = AreTried (g.M.Moves.moves l.moves) l.state l.before l.most l.turn
