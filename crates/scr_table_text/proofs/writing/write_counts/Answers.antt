use Rattle.std.proofs.Common.{◌≡◌, ◌++◌, ◌∙◌, arith}
use Rattle.std.specs.Fmt.{decimal}
use Rattle.std.specs.Prelude.{codes}
use Rattle.std.proofs.lemmas.Grind.{common_steps}
use Rattle.std.proofs.lemmas.Result.{err_from_is_err_and}
use Rattle.scr_outside.proofs.ChangeLemmas.{written-more, written-part, written-at}
use Rattle.scr_table_text.proofs.CountLines.{count_lines-next}
use Rattle.scr_table_text.proofs.writing.write_counts.Goals as goal

pub returns-in_err-write_line : goal.returns-in_err-write_line
returns-in_err-write_line g c =
    let p = err_from_is_err_and c.from_residual.result c.from_residual.ensures.1 in
    let label : c.as_str-in-loop-distance.result.now ≡ decimal c.loop-distance.distance ++ codes " " = grind (arith, common_steps) in
    let next =
    count_lines-next c.args.counts.now c.loop-distance.distance c.as_str-in-loop-distance.result.now c.as_str-in-loop-distance-2.result.now c.loop-distance-test.true
    label (c.as_str-in-loop-distance-2.ensures.value ∙ c.decimal-in-loop-distance.ensures.bytes) in
    rw p.1 (written-part _ (written-at next c.loop-distance.invariant) c.in_err-write_line.ensures)

pub loop-distance-preserved : goal.loop-distance-preserved
loop-distance-preserved g c =
    let label : c.as_str-in-loop-distance.result.now ≡ decimal c.loop-distance.distance ++ codes " " = grind (arith, common_steps) in
    let next =
    count_lines-next c.args.counts.now c.loop-distance.distance c.as_str-in-loop-distance.result.now c.as_str-in-loop-distance-2.result.now c.loop-distance-test.true
    label (c.as_str-in-loop-distance-2.ensures.value ∙ c.decimal-in-loop-distance.ensures.bytes) in
    written-more (written-at next c.loop-distance.invariant) c.in_ok-write_line.ensures
