use Rattle.std.proofs.Common.{◌≡◌, ◌+◌, ap, ◌∙◌, sym, arith}
use Rattle.scr_positions.specs.Coordinates.{value_at}
use Rattle.scr_positions.proofs.Written.{each_written}
use Rattle.scr_positions.proofs.coordinate.Coord.look.Goals as goal
use Rattle.scr_positions.proofs.coordinate.Coord.look.Goals.{in-Some, in-None}

pub loop-k-preserved : goal.loop-k-preserved
loop-k-preserved g c =
    let show = g.Self.Coord.coordinate c.args.self.now in
    let here : c.match-after.into ≡ value_at c.args.values.now c.after.result =
    elim c.match-after.branch [
      | in-Some w ↦ w.into-is ∙ ap (value_at c.args.values.now) (sym w.in-Some.is)
      | in-None w ↦ w.into-is ∙ ap (value_at c.args.values.now) (sym w.in-None.is)
    ] in
    each_written (λ k entry. entry ≡ value_at c.args.values.now (show.after (c.args.start + k) c.args.turn)) _ c.loop-k.k _ (omega arith)
    c.loop-k.invariant (here ∙ ap (value_at c.args.values.now) c.after.ensures.leads)
