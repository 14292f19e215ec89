use Rattle.std.proofs.Common.{◌-◌, refl, sym, arith}
use Rattle.scr_table.proofs.MovesLaws.{HasWordWithin-next, AreTried-idle, AreTried-refused, AreTried-looked}
use Rattle.scr_table.proofs.moves.+is_within.Goals as goal
use Rattle.scr_table.proofs.moves.+is_within.Goals.{in-Some-after+else-is_within, in_default-after}

pub loop-turn-preserved-then-is_idle : goal.loop-turn-preserved-then-is_idle
loop-turn-preserved-then-is_idle g t c =
    AreTried-idle _ _ _ _ _ c.loop-turn.invariant (λ w. rw c.in-Some.is (c.loop-turn.turn, w, refl, c.is_idle.ensures c.if-is_idle.true))

pub returns-then-is_within-clause-found : goal.returns-then-is_within-clause-found
returns-then-is_within-clause-found g t c =
    HasWordWithin-next _ _ _ _ (c.args.most - 1) _ (omega arith) (sym c.in-Some-after.ensures) (omega arith) c.if-is_within.ensures.found

pub loop-turn-preserved : goal.loop-turn-preserved
loop-turn-preserved g t c =
    elim c.match-after.branch [
      | in-Some-after+else-is_within w ↦
          AreTried-looked _ _ _ _ _ c.loop-turn.invariant _ (sym w.in-Some-after.ensures) w.if-is_within.ensures.none
      | in_default-after w ↦ AreTried-refused _ _ _ _ _ c.loop-turn.invariant (sym w.in_default-after.ensures)
    ]
