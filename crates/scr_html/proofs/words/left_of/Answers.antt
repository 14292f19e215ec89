use Rattle.std.proofs.Common.{arith}
use Rattle.scr_html.proofs.TextLemmas.{left_one_line}
use Rattle.scr_html.proofs.words.left_of.Goals as goal

pub returns : goal.returns
returns c =
    rw (c.push_str-3.ensures.bytes, c.push_str-2.ensures.bytes, c.push_str.ensures.bytes, c.as_str.ensures.value, c.decimal.ensures.bytes, c.new-style.ensures, c.from.ensures)
    (left_one_line c.args.column (omega arith))
