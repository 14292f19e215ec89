use Rattle.std.proofs.Common.{◌∙◌, sym, arith}
use Rattle.scr_layout.proofs.RowLemmas.{rows-some, rows-next, rows-end, rows-within}
use Rattle.scr_layout.proofs.rows.row_count.Goals as goal

pub loop-place-init : goal.loop-place-init
loop-place-init c = record { some = omega arith; few = omega arith; more = rows-some c.args.places.now }

pub loop-place-preserved : goal.loop-place-preserved
loop-place-preserved c =
    let rows = c.loop-place.invariant in
    let within = rows-within c.loop-place.rows c.from.result c.max-rows.result rows.some rows.few (omega (arith, c.from.ensures)) c.max-rows.ensures in
    record {
      some = within.0;
      few = within.1;
      more =
          rows-next c.args.places.now c.loop-place.place-index c.loop-place.rows c.from.result c.max-rows.result
          (record { row = 0; column = 0 }) c.loop-place-test.true c.from.ensures c.max-rows.ensures ∙ rows.more;
    }

pub returns-clause-value : goal.returns-clause-value
returns-clause-value c =
    let rows = c.loop-place.invariant in
    sym (rows-end c.args.places.now c.loop-place.place-index c.loop-place.rows (omega (arith, c.loop-place-test.false)) rows.some) ∙ rows.more
