use Rattle.std.proofs.Common.{string_bytes}
use Rattle.scr_text_pages.proofs.RowLemmas.{row-ended}
use Rattle.scr_text_pages.proofs.rows.end_row.Goals as goal

pub returns : goal.returns
returns c = λ words before row.
    row-ended words before (string_bytes c.args.text.now) (string_bytes c.push_str.new.self) row c.in_ok-push_str.ensures.bytes
