use Rattle.std.proofs.Common.{Bor, subst, arith}
use Rattle.std.proofs.lemmas.List.{length-map}
use Rattle.scr_table.specs.Distances.{Distances}
use Rattle.scr_table.specs.Lines.{AreTablesOf}
use Rattle.scr_table_text.specs.Counted.{tables_in}
use Rattle.scr_table_text.proofs.TextsLaws.{tables_in-none, tables-none, tables-some}
use Rattle.scr_table_text.proofs.writing.write_tables.Goals as goal

pub returns-in-empty : goal.returns-in-empty
returns-in-empty g c = λ lines are.
    tables-none _ c.write_line.result lines (subst (AreTablesOf lines) (tables_in-none c.args.tables.now (omega arith)) are) c.write_line.ensures

pub returns-in_default : goal.returns-in_default
returns-in_default g c = λ lines are.
    let tables = c.args.tables.now in
    tables-some _ c.write_each.result lines (tables_in tables)
    (omega (arith, c.in_default.len_at_least, length-map tables (λ (t : Bor Distances). t.now))) are (c.write_each.ensures lines are)
