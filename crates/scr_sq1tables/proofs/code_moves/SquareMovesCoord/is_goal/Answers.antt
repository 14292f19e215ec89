use Rattle.std.proofs.Common.{sym, ap, ◌∙◌, arith}
use Rattle.scr_sq1tables.specs.Stages.{last_stage}
use Rattle.scr_sq1tables.specs.Tables.{has_number, leads_home, square_numbered}
use Rattle.scr_sq1tables.proofs.Indexed.{none-more, some-one}
use Rattle.scr_sq1tables.proofs.HomeStage.{quarter-tested, is_first-tested}
use Rattle.scr_sq1tables.proofs.code_moves.SquareMovesCoord.is_goal.Goals as goal

pub returns-then-eq : goal.returns-then-eq
returns-then-eq c =
    let p = c.args.position in
    let n = c.loop-number.number in
    let m = c.args.self.now in
    sym (some-one (leads_home square_numbered last_stage p) 16 n c.loop-number-test.true
    (quarter-tested m.quarters.letters p n m.of_quarters (omega (arith, c.loop-number-test.true)) ∙ ap (has_number 0) (sym c.after.ensures)
    ∙ is_first-tested c.after.result ∙ sym c.if-eq.ensures))

pub loop-number-preserved : goal.loop-number-preserved
loop-number-preserved c =
    let p = c.args.position in
    let n = c.loop-number.number in
    let m = c.args.self.now in
    none-more (leads_home square_numbered last_stage p) 16 n c.loop-number-test.true c.loop-number.invariant
    (quarter-tested m.quarters.letters p n m.of_quarters (omega (arith, c.loop-number-test.true)) ∙ ap (has_number 0) (sym c.after.ensures)
    ∙ is_first-tested c.after.result ∙ sym c.if-eq.ensures)
