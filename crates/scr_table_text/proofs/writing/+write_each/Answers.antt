use Rattle.std.proofs.Common.{subst, arith}
use Rattle.std.proofs.lemmas.Result.{err_from_is_err_and}
use Rattle.scr_table.specs.Lines.{AreTablesOf}
use Rattle.scr_table_text.proofs.TextsLaws.{tables_in-first, tables_in-none, texts-none, texts-more, texts-part}
use Rattle.scr_table_text.proofs.writing.+write_each.Goals as goal

pub returns-in_err-write_table-in-len1-up : goal.returns-in_err-write_table-in-len1-up
returns-in_err-write_table-in-len1-up g t c = λ lines are.
    let p = err_from_is_err_and c.from_residual.result c.from_residual.ensures.1 in
    let split = tables_in-first c.args.tables.now c.table-item.result c.in-len1-up.len_at_least c.table-item.is in
    rw p.1 (texts-part lines c.table-item.result.now _ c.in_err-write_table-in-len1-up.ensures.0 (subst (AreTablesOf lines) split are)
    c.in_err-write_table-in-len1-up.ensures.1 c.in_err-write_table-in-len1-up.ensures.2)

pub returns-in-empty : goal.returns-in-empty
returns-in-empty g t c = λ lines are.
    texts-none lines (subst (AreTablesOf lines) (tables_in-none c.args.tables.now (omega arith)) are)

pub returns-in_ok-write_table-in-len1-up : goal.returns-in_ok-write_table-in-len1-up
returns-in_ok-write_table-in-len1-up g t c = λ lines are.
    let split = tables_in-first c.args.tables.now c.table-item.result c.in-len1-up.len_at_least c.table-item.is in
    texts-more _ _ lines c.table-item.result.now _ c.in_ok-write_table-in-len1-up.ensures.0 c.write_each.result (subst (AreTablesOf lines) split are)
    c.in_ok-write_table-in-len1-up.ensures.1 c.in_ok-write_table-in-len1-up.ensures.2 c.write_each.ensures
