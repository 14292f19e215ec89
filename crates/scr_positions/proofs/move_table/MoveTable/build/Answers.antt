use Rattle.std.proofs.Common.{◌≡◌, ◌*◌, ◌++◌, length, sym, ap, ◌∙◌, arith}
use Rattle.scr_positions.specs.Moves.{moves_row}
use Rattle.scr_positions.proofs.MoveLaws.{rows_of, rows_of-none, rows_of-more, length-rows_of, length-each_below, ShowsSame-built}
use Rattle.scr_positions.proofs.move_table.MoveTable.build.Goals as goal

pub loop-turn-init : goal.loop-turn-init
loop-turn-init g c = c.in_ok-targets.ensures.items ∙ sym (rows_of-none (g.C.Coord.coordinate c.args.coord.now))

pub loop-turn-preserved : goal.loop-turn-preserved
loop-turn-preserved g c =
    let show = g.C.Coord.coordinate c.args.coord.now in
    let turn = c.loop-turn.turn in
    c.in_ok-push_targets.ensures ∙ ap (λ xs. xs ++ moves_row show turn show.count) c.loop-turn.invariant
    ∙ sym (rows_of-more show turn)

pub invariant_of-result : goal.invariant_of-result
invariant_of-result g c =
    let show = g.C.Coord.coordinate c.args.coord.now in
    let turn = c.loop-turn.turn in
    let all : turn ≡ c.turns-turns.result = omega arith in (
      ap length c.loop-turn.invariant ∙ length-rows_of show turn ∙ ap (λ n. turn * n) (sym c.count-count.ensures.count)
          ∙ ap (λ n. n * c.count-count.result) all ∙ omega arith,
      ap length c.in_ok-goals.ensures ∙ length-each_below show.is_goal show.count ∙ sym c.count-count.ensures.count,
    )

pub returns : goal.returns
returns g c =
    let show = g.C.Coord.coordinate c.args.coord.now in
    let all : c.loop-turn.turn ≡ c.turns-turns.result = omega arith in
    ShowsSame-built show c.count-count.result c.turns-turns.result c.loop-turn.targets.items c.in_ok-goals.goals.items
    c.count-count.ensures.stays_below c.count-count.ensures.count c.turns-turns.ensures c.count-count.type_inv
    (c.loop-turn.invariant ∙ ap (rows_of show) all) c.in_ok-goals.ensures
