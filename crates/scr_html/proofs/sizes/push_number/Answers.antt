use Rattle.std.proofs.Common.{arith}
use Rattle.scr_markup.proofs.PlainLemmas.{HasNoLineFeed-decimal}
use Rattle.scr_html.proofs.sizes.push_number.Goals as goal

pub push_text-requires-clause-more : goal.push_text-requires-clause-more
push_text-requires-clause-more c =
    rw (c.as_str.ensures.value, c.decimal-digits.ensures.bytes) (HasNoLineFeed-decimal c.args.number (omega arith))
