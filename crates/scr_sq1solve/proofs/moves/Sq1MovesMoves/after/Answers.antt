use Rattle.std.proofs.Common.{sym, ◌∙◌}
use Rattle.scr_sq1solve.proofs.MinimaLaws.{after-size}
use Rattle.scr_sq1solve.proofs.moves.Sq1MovesMoves.after.Goals as goal

pub returns : goal.returns
returns c = c.turn_at.ensures.after ∙ sym (after-size c.args.state.now c.args.turn c.turn_at.ensures.valid.size)
