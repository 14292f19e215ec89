use Rattle.std.proofs.Common.{◌≡◌, ◌+◌, ◌-◌, length, take, drop, string_bytes, arith, length-take, length-drop}
use Rattle.scr_text_pages.proofs.RowLemmas.{words-step}
use Rattle.scr_text_pages.proofs.rows.+write_words.Goals as goal

pub returns-in_ok-wide-in-len1-up-2 : goal.returns-in_ok-wide-in-len1-up-2
returns-in_ok-wide-in-len1-up-2 t c = λ event turns are is same.
    let places = c.args.places.now in
    let rest = take (length places - 1) (drop 1 places) in
    let one_less : length rest + 1 ≡ length places =
    omega (arith, c.in-len1-up.len_at_least, length-take (length places - 1) (drop 1 places), length-drop 1 places) in
    words-step c.write_words.result event turns c.args.left.now c.first_word.result.0.now c.first_word.result.1.now
    (string_bytes c.args.text.now) (string_bytes c.go_to_row.new.text) (string_bytes c.write_word.new.text) (string_bytes c.write_words.new.text)
    (length places) (length rest) c.first_word.ensures c.in_ok-wide-in-len1-up.ensures c.in_ok-wide-in-len1-up-2.ensures c.write_words.ensures
    one_less are is same
