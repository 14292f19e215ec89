use Rattle.std.proofs.Common.{◌≡◌, false, Some, sym, ap, ◌∙◌}
use Rattle.std.proofs.lemmas.Bool.{ne_eqb}
use Rattle.scr_sq1tables.specs.Stages.{squaring_stage}
use Rattle.scr_sq1tables.specs.Tables.{has_number, leads_home, shapes_numbered}
use Rattle.scr_sq1tables.proofs.Indexed.{none-more, some-one}
use Rattle.scr_sq1tables.proofs.ShapeStage.{squaring-tested}
use Rattle.scr_sq1tables.proofs.shape_moves.ShapeMovesCoord.is_goal.Goals as goal
use Rattle.scr_sq1tables.proofs.shape_moves.ShapeMovesCoord.is_goal.Goals.{in-Some+else-end-eq-NORMAL, in-None}

pub returns-then-end-eq-NORMAL : goal.returns-then-end-eq-NORMAL
returns-then-end-eq-NORMAL c =
    let n = c.loop-number.number in
    sym (some-one (leads_home shapes_numbered squaring_stage c.args.position) 4 n c.loop-number-test.true
    (squaring-tested c.args.position n c.turned.result c.loop-number-test.true c.turned.ensures.value ∙ ap (has_number 2344) c.in-Some.is
    ∙ ap (λ k. has_number 2344 (Some k)) c.if-end-eq-NORMAL.true))

pub loop-number-preserved : goal.loop-number-preserved
loop-number-preserved c =
    let n = c.loop-number.number in
    none-more (leads_home shapes_numbered squaring_stage c.args.position) 4 n c.loop-number-test.true c.loop-number.invariant
    (squaring-tested c.args.position n c.turned.result c.loop-number-test.true c.turned.ensures.value
    ∙ elim c.match-turned.branch as (λ _. has_number 2344 c.turned.result ≡ false) [
      | in-Some+else-end-eq-NORMAL w ↦ ap (has_number 2344) w.in-Some.is ∙ ne_eqb w.in-Some.end 2344 w.if-end-eq-NORMAL.false
      | in-None w ↦ ap (has_number 2344) w.in-None.is
    ])
