use Rattle.std.proofs.Common.{◌+◌, length, arith}
use Rattle.std.proofs.lemmas.Result.{err_from_is_err_and}
use Rattle.scr_outside.proofs.ChangeLemmas.{written-none, written-more, written-part, written-last, written-at}
use Rattle.scr_text.proofs.WrittenLines.{first_line}
use Rattle.scr_table.specs.declared.table.TheConstants.{GREATEST_BOUND}
use Rattle.scr_table_text.specs.TableText.{head_text, count_lines}
use Rattle.scr_table_text.proofs.CountLaws.{AreEntryCounts-first}
use Rattle.scr_table_text.proofs.writing.write_table.Goals as goal

pub returns-in_err-write_line : goal.returns-in_err-write_line
returns-in_err-write_line g c =
    let p = err_from_is_err_and c.from_residual.result c.from_residual.ensures.1 in
    let table = c.args.table.now in
    let n = c.line_count-lines in (
      _,
      AreEntryCounts-first table.distances c.counts-counts.result (GREATEST_BOUND + 1) n.result n.ensures.few (omega arith) c.counts-counts.ensures.all
          c.counts-counts.ensures.counted n.ensures.last n.ensures.behind,
      rw p.1 (written-part _ (written-at (first_line (head_text table.name (length table.distances) table.bound) (count_lines 0 _)) written-none)
          (rw (c.as_str.ensures.value, c.head.ensures.bytes) at c.in_err-write_line.ensures)),
    )

pub returns : goal.returns
returns g c =
    let table = c.args.table.now in
    let n = c.line_count-lines in (
      _,
      AreEntryCounts-first table.distances c.counts-counts.result (GREATEST_BOUND + 1) n.result n.ensures.few (omega arith) c.counts-counts.ensures.all
          c.counts-counts.ensures.counted n.ensures.last n.ensures.behind,
      written-last _ _ c.write_counts.result
          (written-more (written-at (first_line (head_text table.name (length table.distances) table.bound) (count_lines 0 _)) written-none)
          (rw (c.as_str.ensures.value, c.head.ensures.bytes) at c.in_ok-write_line.ensures))
          c.write_counts.ensures,
    )
