use Rattle.std.proofs.Common.{Some, ap, ◌∙◌, arith}
use Rattle.scr_bigs.proofs.BitLaws.{moves-answered, rows-end}
use Rattle.scr_bigs.proofs.megaminx_moves.megaminx.Goals as goal

pub returns-clause-turns : goal.returns-clause-turns
returns-clause-turns g c =
    moves-answered _ _ _ c.in-Some.ensures.value ∙ ap Some (rows-end _ _ c.loop-row.row (omega arith) c.loop-row.invariant.turns)
