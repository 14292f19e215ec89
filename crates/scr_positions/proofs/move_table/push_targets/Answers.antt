use Rattle.std.proofs.Common.{sym, ap, ◌∙◌, ◌++◌, append-nil}
use Rattle.std.specs.Prelude.{unwrap_or}
use Rattle.scr_positions.specs.declared.coordinate.TheConstants.{BARRED}
use Rattle.scr_positions.proofs.MoveLaws.{row_of-none, row_more}
use Rattle.scr_positions.proofs.move_table.push_targets.Goals as goal

pub loop-position-init : goal.loop-position-init
loop-position-init g c =
    let before = c.args.targets.now.items in
    sym (ap (λ xs. before ++ xs) (row_of-none (g.C.Coord.coordinate c.args.coord.now) c.args.turn) ∙ append-nil before)

pub loop-position-preserved : goal.loop-position-preserved
loop-position-preserved g c =
    row_more (g.C.Coord.coordinate c.args.coord.now) c.args.turn c.loop-position.position c.unwrap_or.result c.args.targets.now.items
    c.loop-position.targets.items c.push.new.self.items c.loop-position.invariant
    (c.unwrap_or.ensures ∙ ap (λ o. unwrap_or o BARRED) c.after.ensures.leads) c.in_ok-push.ensures.items
