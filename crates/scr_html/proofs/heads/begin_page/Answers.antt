use Rattle.std.proofs.Common.{arith}
use Rattle.scr_markup.proofs.PlainLemmas.{HasNoLineFeed-decimal}
use Rattle.scr_html.proofs.heads.begin_page.Goals as goal

pub open_page-requires-clause-round : goal.open_page-requires-clause-round
open_page-requires-clause-round c =
    rw (c.as_str.ensures.value, c.decimal-round.ensures.bytes)
    (HasNoLineFeed-decimal c.sheet_round.result (omega (arith, c.sheet_round.ensures.valid.sheet_round)))
