use Rattle.std.proofs.Common.{string_bytes}
use Rattle.scr_text_pages.proofs.AddLemmas.{adds-no_words}
use Rattle.scr_text_pages.proofs.RowLemmas.{row-same, row-begun}
use Rattle.scr_text_pages.proofs.rows.go_to_row.Goals as goal

pub returns : goal.returns
returns c =
    row-same (string_bytes c.args.text.now) (string_bytes c.push_str.new.self)
    (λ words before row. row-begun words before (string_bytes c.write_empty_lines.new.text) (string_bytes c.push_str.new.self)
    (adds-no_words words before (string_bytes c.end_row.new.text) (string_bytes c.write_empty_lines.new.text) (c.in_ok-end_row.ensures words before row)
    c.in_ok-write_empty_lines.ensures) c.in_ok-push_str.ensures.bytes)
