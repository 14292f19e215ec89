use Rattle.std.proofs.Common.{◌++◌, ◌∷◌, [], sym, ap, ◌∙◌}
use Rattle.scr_positions.proofs.MoveLaws.{each_below-none, each_below-more}
use Rattle.scr_positions.proofs.move_table.goals_of.Goals as goal

pub loop-position-init : goal.loop-position-init
loop-position-init g c = c.in_ok-goals.ensures.items ∙ sym (each_below-none (g.C.Coord.coordinate c.args.coord.now).is_goal)

pub loop-position-preserved : goal.loop-position-preserved
loop-position-preserved g c =
    let show = g.C.Coord.coordinate c.args.coord.now in
    let position = c.loop-position.position in
    c.in_ok-push.ensures.items ∙ ap (λ b. c.loop-position.goals.items ++ b ∷ []) c.is_goal.ensures
    ∙ ap (λ xs. xs ++ show.is_goal position ∷ []) c.loop-position.invariant ∙ sym (each_below-more show.is_goal position)
