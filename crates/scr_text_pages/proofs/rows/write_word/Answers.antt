use Rattle.std.proofs.Common.{◌≤◌, ◌++◌, string_bytes, ap, ◌∙◌, arith}
use Rattle.scr_text_pages.proofs.RowLemmas.{row-word}
use Rattle.scr_text_pages.proofs.rows.write_word.Goals as goal

pub returns : goal.returns
returns c = λ plain.
    let some : 1 ≤ c.max-before.result = omega (arith, c.max-before.ensures) in
    row-word c.args.word.now (string_bytes c.args.text.now) (string_bytes c.push_str.new.self) c.max-before.result plain some
    (c.in_ok-push_str.ensures.bytes ∙ ap (λ t. t ++ c.args.word.now) c.in_ok-write_spaces.ensures)
